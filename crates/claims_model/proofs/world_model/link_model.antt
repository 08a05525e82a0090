-- what the crates above use of the lemmas of `link_model`

pub use Rattle.world_model.proofs.link_model.Latest as Latest
pub use Rattle.world_model.proofs.link_model.Marks as Marks
