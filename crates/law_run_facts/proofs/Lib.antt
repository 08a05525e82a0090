pub use Rattle.law_controller_bindings.proofs.octet_fields as octet_fields
pub use Rattle.law_controller_bindings.proofs.ordered_lists as ordered_lists
pub use Rattle.law_controller_bindings.proofs.law_port_facts as law_port_facts
pub use Rattle.law_controller_bindings.proofs.law_controller_facts as law_controller_facts
pub use Rattle.law_controller_bindings.proofs.law_controller as law_controller
pub use Rattle.law_controller_bindings.proofs as law_controller_bindings
pub use Rattle.law_lifetimes.proofs as law_lifetimes
pub mod law_actor_pace
pub use Rattle.law_world_views.proofs.law_shown_cells as law_shown_cells
pub use Rattle.law_world_views.proofs.law_controller_views as law_controller_views
pub mod Taking
pub mod Takers
pub mod Frames
pub mod Walks
pub mod Sending
pub mod Coming
pub mod Switches
pub mod PortOwns
pub mod Owns
pub mod Controllers
pub mod Marked
pub mod Acting
pub mod Worlds
pub mod Opening
pub mod Runs
pub mod Lists
pub mod Steps
pub mod Rooms
pub mod Opened
pub mod Comes
pub mod Telling
pub mod Bound
pub mod Ports
pub mod Nodes
pub mod Numbers
pub mod Grown
pub mod Gathering
pub mod Chains
pub mod Forged
