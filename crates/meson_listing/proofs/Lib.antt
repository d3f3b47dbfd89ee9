pub mod Names
mod FolderNames
mod Puts
mod Rising
