pub mod Makers
pub mod Choices
pub mod Followed
pub mod CodeFollower
pub mod Effects
pub mod Laws
pub mod Samples
pub mod Rows
