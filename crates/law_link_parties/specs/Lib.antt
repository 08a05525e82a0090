pub use Rattle.law_link_met.specs as law_link_met
pub use Rattle.law_link_met.specs.law_live_hearing as law_live_hearing
pub use Rattle.law_link_met.specs.law_live_rested as law_live_rested
pub use Rattle.law_link_met.specs.law_run_facts as law_run_facts
pub mod Law
