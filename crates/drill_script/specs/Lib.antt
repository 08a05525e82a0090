pub mod Places
pub mod Giving
pub mod Packets
