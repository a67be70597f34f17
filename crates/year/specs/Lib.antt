pub mod Year
pub mod Facts
pub mod Private
