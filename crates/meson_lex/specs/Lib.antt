-- What the contracts of this crate use.
pub mod Bytes
pub mod Kinds
pub mod Neighbours
pub mod Items
pub mod Faults
pub mod Messages
pub mod Lexed
pub mod Literals
pub mod Scan
pub mod Significant
pub mod Words
pub mod Located
