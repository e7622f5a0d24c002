pub mod Texts
pub mod Blocks
pub mod Numbered
pub mod Laws
