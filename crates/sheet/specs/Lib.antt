pub mod Flat
pub mod code
