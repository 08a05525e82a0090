pub use Rattle.law_live_control.specs as law_live_control
pub use Rattle.law_live_peace.specs.law_frame_readings as law_frame_readings
pub use Rattle.law_live_peace.specs.law_live_arrivals as law_live_arrivals
pub use Rattle.law_live_peace.specs.law_live_control_links as law_live_control_links
pub use Rattle.law_live_peace.specs.law_live_elsewhere as law_live_elsewhere
pub use Rattle.law_live_peace.specs.law_live_going as law_live_going
pub use Rattle.law_live_peace.specs.law_live_hearing as law_live_hearing
pub use Rattle.law_live_peace.specs.law_live_links as law_live_links
pub use Rattle.law_live_peace.specs.law_live_nodes as law_live_nodes
pub use Rattle.law_live_peace.specs.law_live_orders as law_live_orders
pub use Rattle.law_live_peace.specs.law_live_others as law_live_others
pub use Rattle.law_live_peace.specs.law_live_passed_by as law_live_passed_by
pub use Rattle.law_live_peace.specs.law_live_rests as law_live_rests
pub use Rattle.law_live_peace.specs.law_live_saying as law_live_saying
pub use Rattle.law_live_peace.specs.law_live_unsaid as law_live_unsaid
pub use Rattle.law_live_peace.specs.law_live_ways as law_live_ways
pub use Rattle.law_live_peace.specs.law_live_worlds as law_live_worlds
pub use Rattle.law_live_peace.specs.law_run_facts as law_run_facts
pub use Rattle.law_live_peace.specs.law_running_worlds as law_running_worlds
pub use Rattle.law_live_peace.specs.law_true_runs as law_true_runs
pub use Rattle.law_live_ports.specs as law_live_ports
pub use Rattle.law_live_ticks.specs as law_live_ticks
pub use Rattle.law_live_unseen.specs as law_live_unseen
pub use Rattle.law_passing.specs as law_passing
pub mod Ports
pub mod Nodes
pub mod Networks
