pub mod Uses
pub mod TargetViews
