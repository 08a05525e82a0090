pub mod Held
pub mod Show
