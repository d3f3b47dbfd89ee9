pub mod Code
pub mod CodeTexts
pub mod Indented
pub mod IndentRows
pub mod inside
pub mod Gaps
pub mod GapRows
pub mod Places
