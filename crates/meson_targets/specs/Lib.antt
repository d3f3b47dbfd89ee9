pub mod Effects
pub mod TargetEdits
pub mod TargetViews
pub mod inside
