pub use Rattle.law_controller_views.specs.aal5_frames as aal5_frames
pub use Rattle.law_controller_views.specs.ordered_lists as ordered_lists
pub use Rattle.law_controller_views.specs.law_port_facts as law_port_facts
pub use Rattle.law_controller_views.specs.law_controller_facts as law_controller_facts
pub use Rattle.law_controller_views.specs.law_label_line as law_label_line
pub use Rattle.law_input_views.specs.law_branch_line as law_branch_line
pub use Rattle.law_controller_views.specs.law_port_widths as law_port_widths
pub use Rattle.law_controller_views.specs.law_port_views as law_port_views
pub use Rattle.law_controller_views.specs.law_shown_cells as law_shown_cells
pub use Rattle.law_controller_views.specs as law_controller_views
pub use Rattle.law_input_views.specs as law_input_views
pub use Rattle.law_gsmp_reading.specs as law_gsmp_reading
pub use Rattle.law_controller_views.specs.law_controller_facts.claims_model.Fronts as Fronts
pub mod Pairs
pub mod Shown
pub mod Made
pub mod Ready
pub mod Marks
pub mod Tied
pub mod Between
pub mod Kept
