pub use Rattle.law_world_pace.proofs as law_world_pace
pub use Rattle.law_passing.proofs as law_passing
pub mod Carried
pub mod Names
