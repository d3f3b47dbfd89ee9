-- The lemmas of this crate.
mod Words
pub mod Coding
pub mod lists
pub mod lines
pub mod statements
pub mod paths
pub mod sequences
pub mod Fitting
pub mod DeepViews
pub mod Keeping
pub mod borders
pub mod exchange
pub mod kept
pub mod places
