pub mod Turns
pub mod Greetings
pub mod Levels
pub mod Knowing
pub mod Meet
pub mod Names
pub mod Resting
