pub mod Places
pub mod Beside
pub mod Rules
pub mod Steps
pub mod Whole
