pub mod Table
pub mod Digits
pub mod Characters
pub mod Ranges
pub mod Passed
pub mod Numbers
pub mod Dates
