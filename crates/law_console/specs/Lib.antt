pub mod Again
pub mod Words
pub mod Handled
pub mod Kept
