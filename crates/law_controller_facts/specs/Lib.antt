pub use Rattle.law_port_facts.specs.octet_fields as octet_fields
pub use Rattle.law_port_facts.specs.ordered_lists as ordered_lists
pub use Rattle.law_port_facts.specs as law_port_facts
pub use Rattle.claims_model.specs as claims_model
pub use Rattle.claims_model.specs.world_model as world_model
pub use Rattle.claims_model.specs.Inputs as Inputs
pub mod Sound
pub mod Refused
pub mod Conditions
pub mod Said
