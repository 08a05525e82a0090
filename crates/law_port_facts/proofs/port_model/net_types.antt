-- what the crates above use of the lemmas of `net_types`

pub use Rattle.port_model.proofs.net_types.Labels as Labels
