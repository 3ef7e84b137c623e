pub mod Runs
pub mod Accepted
pub mod Events
pub mod Refusals
pub mod Bodies
pub mod Afters
pub mod Faults
mod Composed
pub mod Walks
pub mod WalkItems
pub mod WholeWalks
pub mod Reels
