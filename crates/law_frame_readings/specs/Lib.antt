pub use Rattle.law_controller_lifts.specs.octet_fields as octet_fields
pub use Rattle.law_controller_lifts.specs.aal5_frames as aal5_frames
pub use Rattle.law_controller_lifts.specs.ordered_lists as ordered_lists
pub use Rattle.law_controller_lifts.specs.world_model as world_model
pub use Rattle.law_controller_lifts.specs.law_port_facts as law_port_facts
pub use Rattle.law_controller_lifts.specs.law_port_widths as law_port_widths
pub use Rattle.law_controller_lifts.specs.law_controller_facts as law_controller_facts
pub use Rattle.law_world_views.specs as law_world_views
pub use Rattle.law_controller_lifts.specs.law_controller_views as law_controller_views
pub use Rattle.law_controller_lifts.specs.law_port_views as law_port_views
pub use Rattle.law_world_views.specs.law_input_views as law_input_views
pub use Rattle.law_controller_lifts.specs.law_shown_cells as law_shown_cells
pub use Rattle.law_controller_lifts.specs.law_label_line as law_label_line
pub use Rattle.law_controller_lifts.specs.law_label_steps as law_label_steps
pub use Rattle.law_world_views.specs.law_branch_line as law_branch_line
pub use Rattle.law_world_views.specs.law_gsmp_reading as law_gsmp_reading
pub mod Reading
