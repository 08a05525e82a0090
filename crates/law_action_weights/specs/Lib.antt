pub use Rattle.law_frame_weights.specs.claims_model as claims_model
pub use Rattle.law_frame_weights.specs.law_port_weights as law_port_weights
pub mod Fine
