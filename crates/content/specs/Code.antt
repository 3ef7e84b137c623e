pub mod Joining
pub mod Seen
pub mod Heads
pub mod Files
