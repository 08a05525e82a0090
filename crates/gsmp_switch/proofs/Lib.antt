pub mod Exchanges
pub mod Handling
pub mod Inputs
pub mod Ranges
pub mod Restarts
pub mod PortStates
