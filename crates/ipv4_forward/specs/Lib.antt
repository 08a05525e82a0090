pub use Rattle.ipv4_packet.specs as ipv4_packet
pub mod Best
pub mod Longest
pub mod Room
pub mod Hop
pub mod Change
