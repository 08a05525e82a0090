pub mod Ports
pub mod Switches
pub mod Controllers
