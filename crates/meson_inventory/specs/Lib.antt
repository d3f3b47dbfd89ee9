pub mod Assignments
pub mod Holdings
pub mod Info
pub mod Inventory
pub mod Placed
pub mod Laws
pub mod inside
