pub use Rattle.law_controller_facts.proofs.octet_fields as octet_fields
pub use Rattle.law_shown_cells.proofs.aal5_frames as aal5_frames
pub use Rattle.law_controller_facts.proofs.ordered_lists as ordered_lists
pub use Rattle.law_controller_facts.proofs.law_port_facts as law_port_facts
pub use Rattle.law_controller_facts.proofs as law_controller_facts
pub use Rattle.law_port_widths.proofs as law_port_widths
pub use Rattle.law_shown_cells.proofs.law_port_views as law_port_views
pub use Rattle.law_shown_cells.proofs as law_shown_cells
pub use Rattle.law_controller_facts.proofs.world_model as world_model
pub use Rattle.law_rule_walks.proofs as law_rule_walks
pub mod Parts
pub mod Sends
pub mod Works
pub mod AtPort
pub mod Growing
pub mod Carried
