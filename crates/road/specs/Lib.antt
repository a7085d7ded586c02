pub mod Limits
pub mod Routes
pub mod Vehicles
pub mod Starting
pub mod Signals
pub mod Kinds
pub mod SameVehicle
