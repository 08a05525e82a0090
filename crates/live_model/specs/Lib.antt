pub use Rattle.world_model.specs as world_model
pub mod Beats
pub mod Links
pub mod Met
pub mod Peace
pub mod Run
pub mod Waking
