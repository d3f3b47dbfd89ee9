pub mod Nodes
pub mod OneString
pub mod Staying
pub mod Renamings
