pub use Rattle.law_branch_shapes.specs.aal5_frames as aal5_frames
pub use Rattle.law_branch_shapes.specs.ordered_lists as ordered_lists
pub use Rattle.law_branch_shapes.specs.law_port_facts as law_port_facts
pub use Rattle.law_branch_shapes.specs.law_controller_facts as law_controller_facts
pub use Rattle.law_branch_shapes.specs.law_controller as law_controller
pub use Rattle.law_branch_shapes.specs.law_lifetimes as law_lifetimes
pub use Rattle.law_branch_shapes.specs.law_world_views as law_world_views
pub mod Feeding
