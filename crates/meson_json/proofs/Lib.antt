pub mod EachFacts
mod Counting
mod BlankCounts
mod Dots
pub mod LogFacts
pub mod LogLines
pub mod ScriptFacts
pub mod KnownFacts
pub mod TextsFacts
pub mod OnCode
