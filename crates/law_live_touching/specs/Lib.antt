pub mod Law
pub mod Worlds
