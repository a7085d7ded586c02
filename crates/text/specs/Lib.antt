pub mod Decimal
pub mod Fields
pub mod Grammar
pub mod Lines
pub mod Writing
