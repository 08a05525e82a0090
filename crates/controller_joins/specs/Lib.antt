pub use Rattle.world_model.specs as world_model
pub mod Joined
