pub mod Along
pub mod Told
pub mod Read
