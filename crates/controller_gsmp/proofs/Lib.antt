pub mod Sums
pub mod Sent
pub mod Zipped
pub mod Cuts
