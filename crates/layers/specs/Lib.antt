pub mod Layer
pub mod Delayed
pub mod Rationed
pub mod Soundness
