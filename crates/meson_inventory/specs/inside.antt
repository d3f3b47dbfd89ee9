pub mod Assignments
pub mod Holdings
pub mod Positions
