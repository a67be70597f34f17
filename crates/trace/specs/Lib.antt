pub mod Links
pub mod OneChain
pub mod Points
pub mod Private
pub mod Reads
pub mod WorkingBuffer
