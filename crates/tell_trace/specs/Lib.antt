pub mod Passages
pub mod Trace
pub mod Reading
pub mod Waiting
