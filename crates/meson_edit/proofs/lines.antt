pub mod Lists
pub mod Depths
pub mod Cuts
pub mod Splits
pub mod Exchanged
pub mod Statements
pub mod Alike
