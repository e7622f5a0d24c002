pub mod Input
pub mod Line
pub mod Cueline
pub mod Spot
