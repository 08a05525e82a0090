pub mod Account
pub mod Faults
pub mod Steps
pub mod Report
pub mod Reading
