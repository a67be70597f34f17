pub mod Line
pub mod Points
pub mod NumbersWritten
pub mod DigitsOfLine
pub mod RoundTrip
