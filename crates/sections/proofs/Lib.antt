pub mod Cases
pub mod Name
