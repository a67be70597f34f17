pub mod Names
pub mod Private
