pub mod Asked
pub mod Parts
pub mod Entries
pub mod Volumes
pub mod Listed
pub mod Sums
