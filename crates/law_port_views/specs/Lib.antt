pub use Rattle.law_port_facts.specs.octet_fields as octet_fields
pub use Rattle.law_port_facts.specs.ordered_lists as ordered_lists
pub use Rattle.law_port_facts.specs as law_port_facts
pub use Rattle.law_label_line.specs as law_label_line
pub use Rattle.law_port_facts.specs.port_model as port_model
pub mod Link
pub mod Flows
pub mod Heard
pub mod Shown
pub mod Reaching
