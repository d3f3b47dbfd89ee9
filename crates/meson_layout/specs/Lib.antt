-- What the contracts of this crate use.
pub mod Local
pub mod Looks
pub mod Pieces
pub mod Insertion
pub mod Removal
pub mod Statements
pub mod LineSpots
pub mod BlankLines
pub mod StatementRemoval
pub mod Layout
pub mod Words
pub mod Edited
pub mod Laws
pub mod FileLaws
pub mod inside
