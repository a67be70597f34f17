pub mod Products
pub mod Sum
pub mod Swaps
pub mod Table
