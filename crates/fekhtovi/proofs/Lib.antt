pub mod Barring
pub mod Asked
pub mod Paired
pub mod Replaying
