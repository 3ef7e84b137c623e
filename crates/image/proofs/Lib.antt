pub mod Coding
pub mod Items
pub mod Frames
pub mod RoundTrip
pub mod Words
