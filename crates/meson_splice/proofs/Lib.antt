pub mod Sets
pub mod Saving
pub mod Inverses
pub mod Ways
pub mod Leading
pub mod Times
pub mod Counts
