mod Performed
pub mod SplicesDone
pub mod PlacesFound
mod DetailsThere
mod NamedThere
mod CommandsLeave
mod NamesKept
pub mod OneMeaning
mod UnchangedFiles
mod KeptAfter
pub mod Agreeing
mod Unlisted
mod Answered
pub mod ExpressionTexts
