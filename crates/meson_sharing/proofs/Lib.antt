pub mod WayTurns
pub mod TakerLists
pub mod OwnMakers
mod ChosenNames
pub mod ToldTargets
pub mod Sharing
mod JointlyOwn
mod AssignedValues
pub mod ApartReads
pub mod UseTurns
pub mod UsesAround
