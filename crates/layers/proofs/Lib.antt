pub mod Delaying
pub mod Rationing
