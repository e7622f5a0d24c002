pub mod Rows
pub mod Chunked
pub mod Written
pub mod Read
pub mod Encoded
