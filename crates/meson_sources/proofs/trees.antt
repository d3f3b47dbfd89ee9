pub mod Elements
pub mod Places
pub mod Shapes
pub mod Scenes
pub mod Calls
pub mod Skeletons
