pub mod Called
pub mod Details
pub mod Once
pub mod ValueTexts
pub mod Values
