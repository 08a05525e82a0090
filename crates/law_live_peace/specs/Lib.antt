pub use Rattle.law_frame_readings.specs as law_frame_readings
pub use Rattle.law_live_arrivals.specs as law_live_arrivals
pub use Rattle.law_live_control_links.specs as law_live_control_links
pub use Rattle.law_live_elsewhere.specs as law_live_elsewhere
pub use Rattle.law_live_going.specs as law_live_going
pub use Rattle.law_live_hearing.specs as law_live_hearing
pub use Rattle.law_live_links.specs as law_live_links
pub use Rattle.law_live_nodes.specs as law_live_nodes
pub use Rattle.law_live_orders.specs as law_live_orders
pub use Rattle.law_live_others.specs as law_live_others
pub use Rattle.law_live_passed_by.specs as law_live_passed_by
pub use Rattle.law_live_rests.specs as law_live_rests
pub use Rattle.law_live_saying.specs as law_live_saying
pub use Rattle.law_live_unsaid.specs as law_live_unsaid
pub use Rattle.law_live_ways.specs as law_live_ways
pub use Rattle.law_live_worlds.specs as law_live_worlds
pub use Rattle.law_run_facts.specs as law_run_facts
pub use Rattle.law_running_worlds.specs as law_running_worlds
pub use Rattle.law_true_runs.specs as law_true_runs
pub mod Law
pub mod Beats
