pub mod LaidOut
pub mod Plans
pub mod Writes
pub mod Private
