pub mod Between
pub mod Made
pub mod Outcome
