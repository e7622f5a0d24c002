mod Runs
mod Laws
mod Decided
