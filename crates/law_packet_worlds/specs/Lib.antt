pub use Rattle.law_arrival_views.specs.ordered_lists as ordered_lists
pub use Rattle.law_run_facts.specs.law_world_views as law_world_views
pub use Rattle.law_run_facts.specs as law_run_facts
pub mod Channels
pub mod Law
