pub mod Spanned
pub mod Spelled
pub mod TokenSlices
