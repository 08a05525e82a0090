pub mod Ports
pub mod Controllers
pub mod Cells
pub mod Worlds
pub mod Runs
