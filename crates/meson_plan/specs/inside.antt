pub mod Kept
pub mod Orders
pub mod NotedPlaces
