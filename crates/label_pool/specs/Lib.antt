pub mod Tag
pub mod Label
pub mod Marks
pub mod Pool
