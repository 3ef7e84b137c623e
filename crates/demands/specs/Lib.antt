pub mod Operations
pub mod Terms
pub mod Demands
