pub mod Deleting
pub mod Branches
pub mod Switches
pub mod Shaped
pub mod Worlds
pub mod Ways
pub mod Links
