pub mod Told
pub mod Scripts
