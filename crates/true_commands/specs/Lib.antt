pub mod Law
pub mod Told
pub mod Call
