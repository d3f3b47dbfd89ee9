mod Words
pub mod BlockNodes
mod StatementsThere
pub mod ArgumentValues
pub mod WithOne
pub mod InnerPlaces
pub mod OtherBytes
mod Spliced
mod Restoring
mod ListTaken
mod ExchangedTwice
mod ListFollowed
mod ListSpots
mod ReadAgain
mod ListChanged
mod PlacedEdits
mod HeldLists
mod HeldWork
mod PatchedFiles
pub mod WorkKnown
mod StepPlaces
pub mod OneMoreStep
mod OneStep
pub mod StepTaken
mod HeldSteps
pub mod WorkLimits
pub mod UnderWay
pub mod ListParts
pub mod SameRead
pub mod Distincts
pub mod Insertable
pub mod PlainTrees
pub mod Between
pub mod Ascending
pub mod OrderedKeys
pub mod Points
pub mod Identifiers
pub mod KeyedWritten
pub mod WrittenArrays
pub mod SetLiterals
pub mod StepsDoable
pub mod WentWell
pub mod Spellings
pub mod OneMaking
mod OneStanding
pub mod Keeping
pub mod ErasedParts
pub mod ToldAlike
pub mod PartsPut
pub mod OneElement
pub mod ReadKinds
pub mod Bracketed
pub mod CodeDecided
