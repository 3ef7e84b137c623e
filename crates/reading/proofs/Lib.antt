pub mod Assembled
pub mod Entries
pub mod Stages
pub mod Steps
pub mod Legality
pub mod Dates
