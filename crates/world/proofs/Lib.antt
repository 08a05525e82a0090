pub use Rattle.law_world_pace.proofs as law_world_pace
pub use Rattle.law_world_pace.proofs.law_actor_pace as law_actor_pace
pub mod Acting
pub mod NodeStays
pub mod Conditions
pub mod Stepped
pub mod Opened
pub mod Opens
pub mod Waiting
pub mod Peers
pub mod Places
pub mod Starts
pub mod Empty
pub mod Searching
