pub mod Walk
pub mod EveryEntry
pub mod Private
