mod Words
pub mod nodes
pub mod IdentifierTexts
pub mod SlashParts
pub mod FileNames
pub mod Loads
pub mod SettersApart
pub mod Visits
pub mod WordCounts
pub mod WalkedWords
mod Takings
pub mod ListTurns
pub mod Parted
pub mod StatementParts
pub mod FileTurns
pub mod FirstArguments
pub mod Picked
pub mod Searched
pub mod SearchedFiles
pub mod Entered
pub mod Standing
pub mod GoodParts
pub mod GoodTexts
pub mod GoodLiterals
pub mod GoodNotes
pub mod NamedNotes
pub mod Listed
pub mod Nested
pub mod KeptArguments
pub mod SubdirNames
pub mod CallsAt
pub mod ArgumentViews
pub mod FirstNamed
pub mod ListNodes
pub mod Reached
pub mod CallsReached
pub mod ExpressionsAt
pub mod CallsFound
pub mod OneCall
pub mod NotedCalls
mod NamePositions
pub mod CallLists
pub mod FirstValue
pub mod PartsContained
mod PartsOrdered
pub mod Spelled
pub mod NoteTurns
pub mod SetterTurns
mod SpelledLiterals
pub mod StandingParts
pub mod StandingNotes
mod NothingRead
pub mod NoteReadings
pub mod NotesWith
pub mod SetterReadings
pub mod SettersKept
mod AssignmentsKept
pub mod PlainFolders
pub mod KeywordArguments
pub mod AtMostOnce
