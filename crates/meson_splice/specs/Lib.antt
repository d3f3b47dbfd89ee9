pub mod Files
pub mod Patch
pub mod Saved
pub mod Past
pub mod Messages
pub mod Laws
pub mod inside
