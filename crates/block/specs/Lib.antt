pub mod Unit
pub mod Cut
pub mod Turn
pub mod Held
pub mod Room
pub mod Code
