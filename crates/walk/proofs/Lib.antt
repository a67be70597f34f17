pub mod Chain
pub mod Written
pub mod EveryEntry
pub mod AlongChain
pub mod Visiting
pub mod File
