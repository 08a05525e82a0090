pub use Rattle.law_causes.specs.law_controller.law_controller_facts.claims_model.Fronts as Fronts
pub use Rattle.law_causes.specs.law_controller.law_controller_facts.claims_model.Tables as Tables
pub mod Law
