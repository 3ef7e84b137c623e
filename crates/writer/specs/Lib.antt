pub mod Code
