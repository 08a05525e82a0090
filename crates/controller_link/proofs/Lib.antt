pub mod Chains
pub mod Ports
pub mod Regions
pub mod Blocks
