pub use Rattle.truth_model.specs as truth_model
pub use Rattle.truth_model.specs.claims_model.Fronts as Fronts
pub use Rattle.truth_model.specs.Cut as Cut
pub use Rattle.truth_model.specs.Losses as Losses
pub use Rattle.truth_model.specs.Open as Open
pub use Rattle.truth_model.specs.Sent as Sent
pub use Rattle.truth_model.specs.Way as Way
pub mod Law
