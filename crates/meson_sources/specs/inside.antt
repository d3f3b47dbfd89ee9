pub mod Additions
pub mod CodeSpots
pub mod Naming
pub mod Targeted
