pub mod Places
pub mod Opening
pub mod Rows
pub mod Putting
pub mod Taking
