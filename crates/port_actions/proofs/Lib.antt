pub mod Standing
pub mod Entries
pub mod Told
pub mod Cleared
pub mod Clearing
