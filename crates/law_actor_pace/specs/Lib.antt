pub use Rattle.world_model.specs.aal5_frames as aal5_frames
pub use Rattle.ordered_lists.specs as ordered_lists
pub use Rattle.world_model.specs as world_model
pub mod Pace
