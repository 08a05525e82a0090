pub mod Capture
pub mod Seen
