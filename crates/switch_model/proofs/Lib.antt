pub use Rattle.refusal_names.proofs.flow_encaps as flow_encaps
pub use Rattle.adjacency_table.proofs as adjacency_table
pub use Rattle.frame_model.proofs.link_model as link_model
pub use Rattle.frame_model.proofs.aal5_frames as aal5_frames
