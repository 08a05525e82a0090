pub use Rattle.law_quiet_links.proofs.law_quiet_rounds as law_quiet_rounds
pub mod Fronts
pub mod Walk
pub mod Fates
pub mod Kept
pub mod Harmony
pub mod Quiet
pub mod Reading
