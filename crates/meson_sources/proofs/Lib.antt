mod Words
pub mod ExtraAdded
pub mod KeyTexts
pub mod SourcesAdded
pub mod SourcesGone
pub mod SourcesRenamed
pub mod SourcesSorted
pub mod AllSources
pub mod ShrunkFiles
pub mod AllExtras
mod told
pub mod trees
pub mod met
pub mod gone
pub mod added
pub mod renamed
mod LoneTokens
mod sorted
pub mod commands
