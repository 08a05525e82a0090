pub use Rattle.law_packet_worlds.specs as law_packet_worlds
pub use Rattle.law_switch_weights.specs as law_switch_weights
