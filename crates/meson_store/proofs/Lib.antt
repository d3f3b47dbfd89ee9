pub mod Commits
pub mod Returns
pub mod Restoring
pub mod Leaving
pub mod TextsOver
pub mod FailuresOver
