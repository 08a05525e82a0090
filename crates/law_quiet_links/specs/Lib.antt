pub use Rattle.law_controller_weights.specs.claims_model as claims_model
pub mod Law
