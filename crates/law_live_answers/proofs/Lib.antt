pub mod Answering
pub mod Passing
