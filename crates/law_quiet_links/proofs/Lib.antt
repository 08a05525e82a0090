pub use Rattle.law_quiet_rounds.proofs as law_quiet_rounds
pub mod Reweighed
pub mod Facts
pub mod Crossing
pub mod Pays
pub mod Coming
pub mod Carried
pub mod Laws
