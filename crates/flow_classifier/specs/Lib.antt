pub mod Policies
pub mod Counting
pub mod Rows
pub mod History
