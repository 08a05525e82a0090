pub use Rattle.law_causes.proofs.law_cell_lists as law_cell_lists
pub use Rattle.law_causes.proofs as law_causes
pub mod Seen
pub mod Places
pub mod Reading
pub mod Links
