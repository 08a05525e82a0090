pub mod Hopping
pub mod Quiet
pub mod Steps
pub mod Following
pub mod Reading
