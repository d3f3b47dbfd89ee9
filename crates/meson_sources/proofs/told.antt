pub mod Variables
pub mod Targets
pub mod Staying
pub mod FoundAgain
pub mod NamedAgain
pub mod Kept
