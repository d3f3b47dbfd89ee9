mod Words
pub mod Answered
pub mod Anys
pub mod Assignments
pub mod FollowedNames
pub mod Gathers
pub mod KeptTurns
pub mod KnownCalls
pub mod Measures
pub mod MetAll
pub mod NamedElements
pub mod NotedVariables
pub mod NotesNaming
pub mod NothingSet
pub mod Ranks
pub mod Singles
pub mod SoughtValues
pub mod SourcesAt
pub mod Vacant
mod NoValues
