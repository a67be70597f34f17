pub mod Head
pub mod Versions
pub mod Sound
