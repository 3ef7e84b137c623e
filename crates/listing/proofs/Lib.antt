pub mod Decimals
pub mod Lines
pub mod Pages
pub mod Fitting
pub mod Examples
