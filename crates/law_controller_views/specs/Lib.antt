pub use Rattle.law_shown_cells.specs.aal5_frames as aal5_frames
pub use Rattle.law_controller_facts.specs.ordered_lists as ordered_lists
pub use Rattle.law_controller_facts.specs.law_port_facts as law_port_facts
pub use Rattle.law_controller_facts.specs as law_controller_facts
pub use Rattle.law_shown_cells.specs.law_label_line as law_label_line
pub use Rattle.law_port_widths.specs as law_port_widths
pub use Rattle.law_shown_cells.specs.law_port_views as law_port_views
pub use Rattle.law_shown_cells.specs as law_shown_cells
pub use Rattle.law_controller_facts.specs.world_model as world_model
pub mod Ends
pub mod Lifted
pub mod Queues
pub mod Ready
