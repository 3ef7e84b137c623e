pub mod Section
pub mod Code
