mod Alongs
mod GivenLists
mod CallParts
mod ExpressionsAlong
mod SubdirsAlong
mod StatementsAlong
mod RunsAlong
mod PlacedCalls
mod SpotParts
mod SpotsLost
pub mod OnlyNames
mod MarksMayGo
pub mod RemovedMissing
pub mod ToldFolders
mod FollowedMayGo
pub mod ListedGone
pub mod FollowedGone
mod RealValues
mod Keeping
mod CallsMake
pub mod RunsMake
