pub mod MakerLists
pub mod Measures
pub mod GoodNodes
pub mod NameParts
pub mod ReadFiles
pub mod ReadParts
pub mod ReadTurns
pub mod TakenTurns
pub mod HeldTexts
pub mod ReadAnswers
pub mod Searches
pub mod SearchParts
pub mod Steps
pub mod Turns
pub mod Walked
pub mod Weights
pub mod Values
pub mod Asking
pub mod Followed
pub mod MetArguments
pub mod Entering
pub mod LeftOut
mod Occurrences
mod MuteWords
mod MuteStatements
mod MuteParts
mod JoinedItself
mod PassedFlows
mod PassedTurns
