pub mod Recording
pub mod Replay
pub mod BestReading
pub mod Steps
pub mod Points
pub mod Feeding
pub mod Private
