pub mod Sound
pub mod Complete
pub mod Answers
pub mod Brackets
pub mod Cuts
pub mod Items
pub mod Nesting
