pub use Rattle.ordered_lists.specs as ordered_lists
pub use Rattle.world_model.specs as world_model
pub mod Fronts
pub mod Inputs
pub mod Expiry
pub mod Lifetimes
pub mod Order
pub mod Tables
pub mod Costs
pub mod Weights
pub mod Quiet
