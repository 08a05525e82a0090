pub use Rattle.law_controller_bindings.proofs.law_port_facts as law_port_facts
pub use Rattle.law_controller_bindings.proofs.law_controller_facts as law_controller_facts
pub use Rattle.law_controller_bindings.proofs.law_controller as law_controller
pub use Rattle.law_controller_bindings.proofs as law_controller_bindings
pub use Rattle.law_lifetimes.proofs as law_lifetimes
pub use Rattle.law_cell_lists.proofs as law_cell_lists
pub use Rattle.law_controller_bindings.proofs.law_controller.world_model as world_model
pub mod Sizes
pub mod Noting
pub mod Calm
pub mod Rules
pub mod Spots
pub mod Ends
pub mod Phase
pub mod Shown
pub mod Parts
pub mod Sites
pub mod Turning
pub mod Premises
pub mod Acting
pub mod Following
pub mod Popping
pub mod Maps
pub mod Switching
pub mod Branching
pub mod Held
pub mod Losing
pub mod Done
pub mod Crossing
pub mod Gathering
pub mod Restarting
pub mod PutBack
pub mod Arriving
pub mod Events
pub mod Opening
pub mod Gathered
pub mod Runs
