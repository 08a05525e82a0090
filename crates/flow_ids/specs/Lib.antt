pub use Rattle.ipv4_packet.specs.Flow
pub use Rattle.ipv4_packet.specs.Identifier
