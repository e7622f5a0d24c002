pub mod Stacks
mod Answering
mod Endings
mod Linking
