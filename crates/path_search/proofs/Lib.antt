pub mod Least
pub mod Same
pub mod NameNumber
pub mod Laws
pub mod Places
pub mod Counters
pub mod Placing
