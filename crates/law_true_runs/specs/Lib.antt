pub use Rattle.law_true_losses.specs.truth_model.claims_model.Fronts as Fronts
pub use Rattle.law_true_losses.specs.truth_model.claims_model.Lifetimes as Lifetimes
pub use Rattle.law_true_losses.specs.truth_model.Run as Run
pub mod Law
pub mod Runs
