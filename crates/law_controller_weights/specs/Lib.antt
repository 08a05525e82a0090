pub use Rattle.law_action_weights.specs.claims_model as claims_model
pub use Rattle.law_action_weights.specs as law_action_weights
pub mod Coming
