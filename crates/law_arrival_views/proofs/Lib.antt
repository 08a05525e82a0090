pub use Rattle.law_controller_views.proofs.octet_fields as octet_fields
pub use Rattle.law_controller_views.proofs.aal5_frames as aal5_frames
pub use Rattle.law_controller_views.proofs.ordered_lists as ordered_lists
pub use Rattle.law_wire.proofs as law_wire
pub use Rattle.law_controller_views.proofs.law_port_facts as law_port_facts
pub use Rattle.law_controller_views.proofs.law_controller_facts as law_controller_facts
pub use Rattle.law_controller_views.proofs.law_port_widths as law_port_widths
pub use Rattle.law_controller_views.proofs.law_port_views as law_port_views
pub use Rattle.law_controller_views.proofs.law_shown_cells as law_shown_cells
pub use Rattle.law_controller_views.proofs as law_controller_views
pub use Rattle.law_controller_views.proofs.world_model as world_model
pub use Rattle.law_controller_views.proofs.law_rule_walks as law_rule_walks
pub mod Routes
pub mod Chains
pub mod Hears
pub mod Comes
pub mod Others
