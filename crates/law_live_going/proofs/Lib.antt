pub mod Steps
pub mod Going
pub mod Ticks
pub mod Settling
