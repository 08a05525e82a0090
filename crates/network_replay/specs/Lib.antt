pub mod Lines
pub mod Along
pub mod Ending
