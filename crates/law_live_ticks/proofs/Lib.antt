pub mod Places
pub mod Grants
pub mod Labels
pub mod Ticking
