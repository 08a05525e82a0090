mod Sessions
pub mod Told
pub mod Given
