pub use Rattle.law_controller_facts.specs.octet_fields as octet_fields
pub use Rattle.law_controller_facts.specs.ordered_lists as ordered_lists
pub use Rattle.law_controller_facts.specs.law_port_facts as law_port_facts
pub use Rattle.law_controller_facts.specs as law_controller_facts
pub use Rattle.law_controller_facts.specs.world_model as world_model
pub mod Order
pub mod Match
pub mod Law
pub mod Actions
