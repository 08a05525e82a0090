pub use Rattle.law_actor_pace.specs as law_actor_pace
pub use Rattle.law_actor_pace.specs.world_model as world_model
pub mod Running
