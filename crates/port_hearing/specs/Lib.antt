pub mod Joins
pub mod Taking
