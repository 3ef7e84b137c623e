pub mod Rules
mod Composed
pub mod Walk
pub mod Filled
pub mod Laid
pub mod Every
pub mod Fine
pub mod Setting
pub mod Making
pub mod Read
pub mod Families
