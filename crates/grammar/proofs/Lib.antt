pub mod Interspersed
pub mod Told
pub mod SpacedLaws
pub mod BarredLaws
