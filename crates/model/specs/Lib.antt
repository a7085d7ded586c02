pub mod Lists
pub mod Sums
pub mod Shape
pub mod Made
pub mod Pile
pub mod Linking
pub mod Numbers
