pub mod Walks
pub mod Tables
pub mod Limits
