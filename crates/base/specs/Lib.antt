pub mod If
pub mod Part
pub mod Sum
pub mod Digits
pub mod Answer
pub mod Format
pub mod Code
