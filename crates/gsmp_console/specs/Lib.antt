pub mod Script
pub mod Bench
