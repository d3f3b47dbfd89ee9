pub mod Assigned
pub mod Behind
pub mod Found
pub mod Lines
pub mod Wanted
