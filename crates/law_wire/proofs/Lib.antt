pub mod Ifmp
pub mod Gsmp
pub mod Packets
