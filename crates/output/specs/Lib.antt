pub mod Output
pub mod Text
