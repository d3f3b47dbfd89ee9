mod Standing
mod Words
mod Continuing
mod Utf8
mod Lines
mod Statements
mod Writing
mod FileEnds
pub mod CodeTexts
mod BlankLines
pub mod Placed
mod Counted
