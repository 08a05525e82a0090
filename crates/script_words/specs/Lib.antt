pub mod Faults
pub mod Keywords
pub mod Told
pub mod Ways
