pub mod Turns
pub mod WrittenPaths
pub mod MetSources
pub mod NamedPaths
pub mod PlainElements
pub mod AddedSources
pub mod RemovedSources
mod RenamedSources
mod NamedElements
pub mod EditLaws
mod RenameLaws
mod WrittenNames
mod SharedParts
mod EachOnce
mod StandingMarks
mod RenamesDone
pub mod MayBeDone
