pub mod Plan
pub mod Settings
pub mod Safety
pub mod Quotas
pub mod Rows
