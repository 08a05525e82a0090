pub mod Hops
pub mod Orders
pub mod Runs
