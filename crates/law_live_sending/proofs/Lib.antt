pub mod Going
pub mod Ticking
pub mod Sending
