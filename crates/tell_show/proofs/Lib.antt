pub mod Along
pub mod Sums
pub mod Waits
pub mod Branches
pub mod Sites
pub mod Ends
pub mod Counts
