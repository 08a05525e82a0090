pub mod Fault
pub mod Memory
pub mod Transfer
pub mod Lines
pub mod Reading
pub mod Report
pub mod Puts
