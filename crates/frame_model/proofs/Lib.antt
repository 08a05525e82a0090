pub use Rattle.link_model.proofs as link_model
pub use Rattle.aal5_frames.proofs as aal5_frames
pub mod Cuts
pub mod Frames
