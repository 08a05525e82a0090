pub mod Unmarked
pub mod Law
