pub use Rattle.law_actor_pace.proofs as law_actor_pace
pub use Rattle.law_actor_pace.proofs.world_model as world_model
pub mod Running
pub mod Events
pub mod Ports
