pub mod Entries
pub mod Followed
pub mod Laws
pub mod Values
