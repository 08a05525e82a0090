-- what the crates above use of the lemmas of `flow_encaps`

pub use Rattle.world_model.proofs.flow_encaps.CarryLemmas as CarryLemmas
pub use Rattle.world_model.proofs.flow_encaps.RebuiltLemmas as RebuiltLemmas
