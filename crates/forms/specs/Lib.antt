pub mod Writable
pub mod Writing
pub mod Laws
