pub mod Joins
pub mod Ticks
pub mod Frames
