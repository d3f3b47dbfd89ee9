pub mod Told
mod CallsThere
mod CalledNames
mod ChangedKeys
mod EachShown
mod GoodWords
mod ValueParts
mod ValuesAreTexts
