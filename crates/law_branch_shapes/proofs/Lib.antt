pub use Rattle.law_world_views.proofs.ordered_lists as ordered_lists
pub use Rattle.law_world_views.proofs.law_port_facts as law_port_facts
pub use Rattle.law_world_views.proofs.law_controller_facts as law_controller_facts
pub use Rattle.law_causes.proofs.law_controller as law_controller
pub use Rattle.law_causes.proofs.law_controller_bindings as law_controller_bindings
pub use Rattle.law_causes.proofs.law_lifetimes as law_lifetimes
pub use Rattle.law_world_views.proofs as law_world_views
pub use Rattle.law_causes.proofs as law_causes
pub mod Asked
pub mod Kept
pub mod Chance
pub mod Sites
pub mod Runs
