pub use Rattle.law_controller_bindings.specs.octet_fields as octet_fields
pub use Rattle.law_controller_bindings.specs.ordered_lists as ordered_lists
pub use Rattle.law_controller_bindings.specs.law_port_facts as law_port_facts
pub use Rattle.law_controller_bindings.specs.law_controller_facts as law_controller_facts
pub use Rattle.law_controller_bindings.specs.law_controller as law_controller
pub use Rattle.law_controller_bindings.specs as law_controller_bindings
pub use Rattle.law_world_pace.specs as law_world_pace
pub use Rattle.law_world_views.specs.law_label_line as law_label_line
pub use Rattle.law_world_views.specs.law_port_views as law_port_views
pub use Rattle.law_world_views.specs.law_shown_cells as law_shown_cells
pub use Rattle.law_world_views.specs as law_world_views
pub mod Inputs
pub mod Frames
pub mod Drawn
pub mod Chains
pub mod Steps
pub mod Nodes
