pub mod Checks
pub mod Opened
pub mod Rules
