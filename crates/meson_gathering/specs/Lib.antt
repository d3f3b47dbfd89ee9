pub mod Gathering
pub mod Gathered
pub mod ReadCounts
pub mod inside
