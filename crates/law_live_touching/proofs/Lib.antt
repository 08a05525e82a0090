pub mod Staying
pub mod Ports
pub mod Frames
pub mod Successes
pub mod Branches
pub mod Worlds
