pub mod Passing
pub mod Flatten
