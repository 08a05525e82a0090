pub mod Feeds
pub mod Buffers
pub mod Sights
pub mod Skips
pub mod Puts
pub mod Ends
pub mod Stops
