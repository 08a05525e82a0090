pub use Rattle.law_link_met.proofs as law_link_met
pub use Rattle.law_link_met.proofs.law_live_hearing as law_live_hearing
pub use Rattle.law_link_met.proofs.law_run_facts as law_run_facts
pub mod Cells
pub mod Carries
