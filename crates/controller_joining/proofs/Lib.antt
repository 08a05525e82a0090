pub use Rattle.law_join_facts.proofs as law_join_facts
pub mod Kept
pub mod Released
pub mod Ticked
pub mod Changes
pub mod Told
pub mod Passed
pub mod Tried
pub mod Tries
