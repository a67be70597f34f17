pub mod Hex
pub mod Private
