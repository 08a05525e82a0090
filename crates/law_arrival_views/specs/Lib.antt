pub use Rattle.law_controller_views.specs.aal5_frames as aal5_frames
pub use Rattle.law_controller_views.specs.ordered_lists as ordered_lists
pub use Rattle.law_controller_views.specs.law_port_facts as law_port_facts
pub use Rattle.law_controller_views.specs.law_controller_facts as law_controller_facts
pub use Rattle.law_controller_views.specs.law_port_widths as law_port_widths
pub use Rattle.law_controller_views.specs.law_shown_cells as law_shown_cells
pub use Rattle.law_controller_views.specs as law_controller_views
pub use Rattle.law_controller_views.specs.world_model as world_model
pub mod Packets
pub mod Cells
