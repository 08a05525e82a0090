pub use Rattle.law_packet_worlds.proofs as law_packet_worlds
pub use Rattle.law_switch_weights.proofs as law_switch_weights
pub mod Sites
pub mod Places
pub mod Rounds
