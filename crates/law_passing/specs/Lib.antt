pub use Rattle.law_actor_pace.specs.aal5_frames as aal5_frames
pub use Rattle.law_actor_pace.specs.ordered_lists as ordered_lists
pub use Rattle.telling_model.specs as telling_model
pub use Rattle.telling_model.specs.Reached as Reached
pub mod Law
