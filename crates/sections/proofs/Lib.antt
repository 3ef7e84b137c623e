pub mod Lengths
pub mod Filled
