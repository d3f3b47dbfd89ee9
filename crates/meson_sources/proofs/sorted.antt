pub mod Edits
pub mod Puts
pub mod Homes
pub mod Found
pub mod Putting
pub mod InOrder
pub mod Keys
pub mod StillInOrder
