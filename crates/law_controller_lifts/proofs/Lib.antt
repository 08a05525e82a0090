pub use Rattle.law_label_steps.proofs.octet_fields as octet_fields
pub use Rattle.law_label_steps.proofs.ordered_lists as ordered_lists
pub use Rattle.law_arrival_views.proofs.law_wire as law_wire
pub use Rattle.law_label_steps.proofs.law_port_facts as law_port_facts
pub use Rattle.law_arrival_views.proofs.law_controller_facts as law_controller_facts
pub use Rattle.law_arrival_views.proofs.law_port_widths as law_port_widths
pub use Rattle.law_label_steps.proofs.law_port_views as law_port_views
pub use Rattle.law_label_steps.proofs as law_label_steps
pub use Rattle.law_arrival_views.proofs.law_shown_cells as law_shown_cells
pub use Rattle.law_arrival_views.proofs.law_controller_views as law_controller_views
pub use Rattle.law_arrival_views.proofs as law_arrival_views
pub use Rattle.law_arrival_views.proofs.world_model as world_model
pub mod Lifts
pub mod Halted
pub mod Kept
pub mod Unspent
pub mod Ready
pub mod Releasing
pub mod Follow
pub mod Ways
pub mod Holding
pub mod Ticking
