pub mod Begins
pub mod Reclaims
pub mod Redirects
