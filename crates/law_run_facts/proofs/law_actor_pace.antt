-- what the crates above use of the lemmas of `law_actor_pace`

pub use Rattle.law_world_pace.proofs.law_actor_pace.Cells as Cells
pub use Rattle.law_world_pace.proofs.law_actor_pace.Controllers as Controllers
pub use Rattle.law_world_pace.proofs.law_actor_pace.Paces as Paces
pub use Rattle.law_world_pace.proofs.law_actor_pace.Switches as Switches
