pub mod Lists
pub mod Counts
pub mod Homes
pub mod Turns
