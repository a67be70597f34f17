pub mod Verdict
pub mod Checks
pub mod Early
pub mod Allowed
pub mod Private
