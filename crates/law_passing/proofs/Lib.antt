pub use Rattle.law_actor_pace.proofs.ordered_lists as ordered_lists
pub use Rattle.telling_model.proofs as telling_model
pub use Rattle.law_actor_pace.proofs as law_actor_pace
pub mod Fronts
pub mod Links
pub mod Rules
pub mod Controllers
mod Switches
pub mod Queues
pub mod Worlds
