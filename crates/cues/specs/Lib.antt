pub mod Calls
pub mod Sheet
pub mod Law
pub mod Requests
