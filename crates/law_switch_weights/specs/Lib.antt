pub use Rattle.law_frame_weights.specs.claims_model as claims_model
pub mod Coming
