pub mod Limits
pub mod Exits
pub mod Kinds
