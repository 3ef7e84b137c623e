pub mod Pack
pub mod Lay
pub mod Write
pub mod Rewrite
pub mod Code
