pub mod Lists
pub mod Loops
pub mod Entering
pub mod Code
pub mod Laws
pub mod Rows
