mod Words
pub mod AddedTargets
mod ChosenParts
mod ToldParts
mod GoneStatements
mod StatementTargets
mod SetTargets
pub mod RemovedTargets
mod NewTargets
mod SetNames
mod Holders
pub mod VariableStatements
pub mod StatementsDoable
mod StatementsRemoved
mod TargetText
mod Throughs
mod UsesFound
pub mod TargetsDoable
