pub mod Cutting
pub mod Records
pub mod Files
pub mod Names
pub mod Numbers
pub mod Flattened
