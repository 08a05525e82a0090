pub mod Ports
pub mod Frames
pub mod Successes
pub mod Standing
pub mod Worlds
