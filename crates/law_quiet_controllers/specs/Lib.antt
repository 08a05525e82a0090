pub mod Quiet
pub mod Heard
pub mod Law
