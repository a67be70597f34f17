pub mod Queries
pub mod Private
pub mod Shown
pub mod Contents
pub mod Cost
