pub mod Every
pub mod Fits
pub mod Children
pub mod StatementChildren
pub mod Reaching
