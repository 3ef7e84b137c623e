pub mod Page
pub mod Place
