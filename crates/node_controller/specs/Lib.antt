pub use Rattle.law_actor_pace.specs as law_actor_pace
pub mod Nodes
