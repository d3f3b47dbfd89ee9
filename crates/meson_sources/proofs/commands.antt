pub mod Meant
pub mod Targets
pub mod Renamed
pub mod Removals
