pub use Rattle.law_port_weights.specs.claims_model as claims_model
pub use Rattle.law_port_weights.specs as law_port_weights
