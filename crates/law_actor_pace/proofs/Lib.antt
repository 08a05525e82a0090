pub use Rattle.ordered_lists.proofs as ordered_lists
pub use Rattle.world_model.proofs as world_model
pub mod Cells
pub mod Paces
pub mod Controllers
pub mod Switches
