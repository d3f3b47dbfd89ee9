pub mod Assigned
pub mod Changed
pub mod Deepened
pub mod Levelled
pub mod Lined
