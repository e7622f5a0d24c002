pub mod Answer
pub mod Bars
pub mod Check
pub mod Script
pub mod Pairs
pub mod Record
pub mod Replay
