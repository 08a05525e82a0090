pub use Rattle.law_controller_bindings.specs.law_controller as law_controller
pub use Rattle.law_controller_bindings.specs as law_controller_bindings
pub use Rattle.law_lifetimes.specs as law_lifetimes
pub use Rattle.law_cell_lists.specs.world_model as world_model
pub mod Feeding
pub mod Law
