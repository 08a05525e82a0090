pub use Rattle.claims_model.specs as claims_model
pub use Rattle.claims_model.specs.world_model as world_model
pub mod Works
pub mod Law
