pub mod Heard
pub mod Law
