pub mod Tape
pub mod Set
pub mod Code
