pub use Rattle.ipv4_packet.specs as ipv4_packet
pub mod Indexes
pub mod Ledger
pub mod Notes
