pub mod Calm
pub mod Law
