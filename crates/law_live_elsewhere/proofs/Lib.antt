pub mod Kept
pub mod Elsewhere
