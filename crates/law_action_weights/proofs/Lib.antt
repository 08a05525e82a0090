pub use Rattle.law_frame_weights.proofs.law_port_weights as law_port_weights
pub use Rattle.law_frame_weights.proofs as law_frame_weights
pub mod Judging
pub mod Resets
pub mod Acting
