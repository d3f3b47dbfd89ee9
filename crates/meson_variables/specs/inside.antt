pub mod CodeValues
pub mod Tallies
pub mod Noted
