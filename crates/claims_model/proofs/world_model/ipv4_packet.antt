-- what the crates above use of the lemmas of `ipv4_packet`

pub use Rattle.world_model.proofs.ipv4_packet.HeaderLemmas as HeaderLemmas
pub use Rattle.world_model.proofs.ipv4_packet.MessageLemmas as MessageLemmas
pub use Rattle.world_model.proofs.ipv4_packet.RouteLemmas as RouteLemmas
