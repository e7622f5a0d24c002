pub mod Tree
pub mod Parse
pub mod Verdict
pub mod Check
pub mod Theorems
