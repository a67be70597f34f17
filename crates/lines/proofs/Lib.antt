pub mod Lines
pub mod Leading
