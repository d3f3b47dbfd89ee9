pub mod Borrowed
pub mod Gap
pub mod Ordered
