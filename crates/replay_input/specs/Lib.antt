pub mod Starts
pub mod Text
pub mod Input
pub mod Program
pub mod Private
