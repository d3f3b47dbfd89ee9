pub mod Files
pub mod Tokens
pub mod Trees
