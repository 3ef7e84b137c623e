pub mod Item
pub mod Byte
pub mod Framing
pub mod Code
