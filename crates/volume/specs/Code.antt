pub mod Body
pub mod Place
pub mod Told
pub mod Walk
