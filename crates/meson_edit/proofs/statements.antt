pub mod Assigned
pub mod FirstWords
pub mod Trailed
pub mod Erasing
pub mod Removed
pub mod Appended
pub mod Kept
pub mod Lined
