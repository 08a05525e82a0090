pub mod Counts
pub mod Taking
