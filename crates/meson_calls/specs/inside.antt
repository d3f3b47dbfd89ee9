pub mod Loads
pub mod Setters
pub mod Walks
