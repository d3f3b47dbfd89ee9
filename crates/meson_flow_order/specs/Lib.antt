pub mod Order
pub mod Laws
pub mod Rows
pub mod Standing
