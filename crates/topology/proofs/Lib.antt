pub mod Peers
pub mod Places
pub mod Routing
pub mod Making
