pub mod Session
pub mod Report
pub mod Course
pub mod Task
