pub mod Histories
pub mod Stack
pub mod Sensible
pub mod Running
pub mod Reading
