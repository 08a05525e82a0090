pub mod Places
pub mod Region
pub mod Room
pub mod Steps
pub mod Shares
