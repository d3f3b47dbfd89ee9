pub mod Leaving
pub mod Making
pub mod Tasking
