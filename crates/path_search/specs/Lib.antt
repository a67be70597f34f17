pub mod Search
pub mod From
pub mod Private
