pub use Rattle.law_actor_pace.proofs.ordered_lists as ordered_lists
pub use Rattle.law_controller_lifts.proofs.law_wire as law_wire
pub use Rattle.law_controller_lifts.proofs.law_port_facts as law_port_facts
pub use Rattle.law_controller_lifts.proofs.law_controller_facts as law_controller_facts
pub use Rattle.law_controller_lifts.proofs.law_port_widths as law_port_widths
pub use Rattle.law_controller_lifts.proofs.law_port_views as law_port_views
pub use Rattle.law_controller_lifts.proofs.law_label_steps as law_label_steps
pub use Rattle.law_controller_lifts.proofs.law_shown_cells as law_shown_cells
pub use Rattle.law_controller_lifts.proofs.law_controller_views as law_controller_views
pub use Rattle.law_controller_lifts.proofs.law_arrival_views as law_arrival_views
pub use Rattle.law_controller_lifts.proofs as law_controller_lifts
pub use Rattle.law_world_views.proofs as law_world_views
pub mod Nets
pub mod Losses
pub mod Acts
pub mod Switches
pub mod SwitchActs
pub mod Carries
pub mod Restarts
pub mod Enters
pub mod Arrivals
pub mod Labelled
pub mod Links
pub mod Across
pub mod Next
