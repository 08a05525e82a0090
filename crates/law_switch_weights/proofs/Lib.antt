pub use Rattle.law_frame_weights.proofs.law_port_weights as law_port_weights
pub mod Queues
pub mod Switches
pub mod Paid
