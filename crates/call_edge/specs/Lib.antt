pub mod Sink
pub mod Words
