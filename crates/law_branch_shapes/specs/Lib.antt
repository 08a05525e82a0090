pub use Rattle.law_world_views.specs.aal5_frames as aal5_frames
pub use Rattle.law_world_views.specs.ordered_lists as ordered_lists
pub use Rattle.law_world_views.specs.law_port_facts as law_port_facts
pub use Rattle.law_world_views.specs.law_controller_facts as law_controller_facts
pub use Rattle.law_causes.specs.law_controller as law_controller
pub use Rattle.law_causes.specs.law_controller_bindings as law_controller_bindings
pub use Rattle.law_causes.specs.law_lifetimes as law_lifetimes
pub use Rattle.law_world_views.specs as law_world_views
pub use Rattle.law_causes.specs as law_causes
pub use Rattle.law_causes.specs.world_model as world_model
pub mod Shapes
pub mod Events
