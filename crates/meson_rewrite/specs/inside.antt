pub mod Edited
pub mod Requests
