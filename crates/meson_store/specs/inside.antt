pub mod Planned
pub mod Commit
