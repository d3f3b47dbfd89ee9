pub mod Names
pub mod Gathered
