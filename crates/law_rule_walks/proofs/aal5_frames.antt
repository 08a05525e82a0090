-- what the crates above use of the lemmas of `aal5_frames`

pub use Rattle.world_model.proofs.aal5_frames.Cells as Cells
