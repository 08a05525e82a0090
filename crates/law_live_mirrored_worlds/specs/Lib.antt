pub mod Way
pub mod Law
pub mod Ticks
