pub use Rattle.law_controller.specs.octet_fields as octet_fields
pub use Rattle.law_controller.specs.ordered_lists as ordered_lists
pub use Rattle.law_controller.specs.law_port_facts as law_port_facts
pub use Rattle.law_controller.specs.law_controller_facts as law_controller_facts
pub use Rattle.law_controller.specs as law_controller
pub use Rattle.law_controller.specs.world_model as world_model
pub mod Bindings
