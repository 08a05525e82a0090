-- what the crates above use of the lemmas of `adjacency_table`

pub use Rattle.port_model.proofs.adjacency_table.EndsLemmas as EndsLemmas
