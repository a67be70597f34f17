pub mod Decision
pub mod Plan
pub mod Each
