pub mod Limits
pub mod Serving
pub mod Frames
pub mod Switches
pub mod Kinds
pub mod SameFrame
