mod Identified
mod Counting
pub mod Moves
pub mod Taken
