pub use Rattle.law_port_weights.proofs as law_port_weights
pub mod Frames
pub mod Readings
