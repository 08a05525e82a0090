pub use Rattle.ipv4_packet.proofs as ipv4_packet
pub mod Tests
pub mod Passing
pub mod Changing
