pub mod Class
pub mod Number
pub mod Date
pub mod Code
