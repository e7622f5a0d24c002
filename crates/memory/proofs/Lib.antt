pub mod Sums
mod Owners
mod Gather
mod Place
mod Change
pub mod Room
mod Calls
