-- what the crates above use of the lemmas of `net_types`

pub use Rattle.world_model.proofs.net_types.Labels as Labels
