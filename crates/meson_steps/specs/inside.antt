pub mod Held
pub mod Layers
pub mod Laying
pub mod WrittenValues
pub mod Working
pub mod ListSteps
pub mod Journal
pub mod Bare
