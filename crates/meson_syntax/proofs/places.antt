pub mod Spots
pub mod Spoken
pub mod Elements
pub mod Covers
pub mod Pairs
