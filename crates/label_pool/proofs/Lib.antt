pub mod Marked
pub mod Channels
pub mod Pools
