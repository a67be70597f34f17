pub mod Values
pub mod Stages
pub mod Readers
pub mod Early
pub mod Taken
pub mod Free
pub mod Rest
pub mod Allowed
