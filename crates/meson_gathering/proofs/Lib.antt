pub mod EnteredFiles
pub mod Stopping
pub mod Places
pub mod FileNames
pub mod Parsed
pub mod Asking
pub mod NameSets
