pub mod Keeping
pub mod Rules
