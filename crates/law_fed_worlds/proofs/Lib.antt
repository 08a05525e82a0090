pub use Rattle.law_branch_shapes.proofs.ordered_lists as ordered_lists
pub use Rattle.law_branch_shapes.proofs.law_port_facts as law_port_facts
pub use Rattle.law_branch_shapes.proofs.law_controller_facts as law_controller_facts
pub use Rattle.law_branch_shapes.proofs.law_controller as law_controller
pub use Rattle.law_branch_shapes.proofs.law_controller_bindings as law_controller_bindings
pub use Rattle.law_branch_shapes.proofs.law_lifetimes as law_lifetimes
pub use Rattle.law_branch_shapes.proofs.law_world_views as law_world_views
pub use Rattle.law_branch_shapes.proofs.law_causes as law_causes
pub mod Led
pub mod Asked
pub mod Laws
