pub mod Latest
pub mod Marks
