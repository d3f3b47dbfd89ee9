pub mod Positions
pub mod PositionLaws
pub mod Trimming
pub mod Edits
pub mod EditLaws
pub mod Ranges
pub mod Files
pub mod FileLaws
