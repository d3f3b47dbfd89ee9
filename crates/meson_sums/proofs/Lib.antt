mod Lines
mod Listing
mod Telling
