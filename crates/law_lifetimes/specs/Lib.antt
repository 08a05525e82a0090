pub use Rattle.law_rule_walks.specs.aal5_frames as aal5_frames
pub use Rattle.law_controller.specs.law_controller_facts.claims_model.Expiry as Expiry
pub use Rattle.law_controller.specs.law_controller_facts.claims_model.Lifetimes as Lifetimes
pub mod Aging
pub mod Law
pub mod Run
