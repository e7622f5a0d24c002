pub mod Walks
mod Sound
pub mod Complete
pub mod Refusals
