pub mod Held
pub mod Table
pub mod Places
pub mod Tags
