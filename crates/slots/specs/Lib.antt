pub mod Walk
pub mod Empty
