pub mod State
pub mod Fault
pub mod Step
pub mod Run
pub mod Accepted
pub mod Meaning
pub mod Dates
pub mod Code
