pub use Rattle.law_controller_views.proofs.ordered_lists as ordered_lists
pub use Rattle.law_controller_views.proofs.law_port_facts as law_port_facts
pub use Rattle.law_controller_views.proofs.law_controller_facts as law_controller_facts
pub use Rattle.law_input_views.proofs.law_branch_line as law_branch_line
pub use Rattle.law_controller_views.proofs.law_port_views as law_port_views
pub use Rattle.law_controller_views.proofs.law_shown_cells as law_shown_cells
pub use Rattle.law_controller_views.proofs as law_controller_views
pub use Rattle.law_gsmp_reading.proofs as law_gsmp_reading
pub mod Put
pub mod Sites
pub mod Labels
