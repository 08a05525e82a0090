mod Decoded
mod Unwrapped
mod Rights
mod Frames
mod Opened
mod Entered
mod Ended
pub mod Counted
