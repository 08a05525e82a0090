pub mod Json
pub mod Journal
pub mod Seen
