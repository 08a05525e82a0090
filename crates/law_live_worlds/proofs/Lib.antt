pub mod Ticking
pub mod Staying
