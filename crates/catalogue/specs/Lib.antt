pub mod Line
pub mod RoundTrip
pub mod Points
pub mod Private
