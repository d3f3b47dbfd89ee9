pub mod Lines
pub mod Alignment
pub mod Changes
pub mod Hunks
pub mod Diff
pub mod Laws
