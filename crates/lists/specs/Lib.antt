pub mod Answer
pub mod Pairs
pub mod Part
pub mod First
pub mod Those
pub mod Count
pub mod Filled
pub mod Table
