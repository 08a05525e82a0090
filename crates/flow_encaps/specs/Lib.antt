pub mod Default
pub mod Labelled
pub mod Unwrapped
