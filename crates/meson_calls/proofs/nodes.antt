pub mod Induction
pub mod PartsBelow
pub mod EachPart
pub mod Sorts
pub mod ChildWords
pub mod Erased
