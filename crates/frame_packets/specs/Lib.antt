pub mod Taps
pub mod Packet
