pub mod Channel
pub mod Label
pub mod Number
pub mod Prefix
