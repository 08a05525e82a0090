pub mod Leaving
pub mod Working
pub mod Counting
pub mod Holding
pub mod Settling
pub mod Answering
pub mod Framing
