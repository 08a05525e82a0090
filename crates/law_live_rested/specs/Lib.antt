pub use Rattle.law_live_woken.specs as law_live_woken
pub use Rattle.law_live_woken.specs.law_frame_readings as law_frame_readings
pub use Rattle.law_live_woken.specs.law_live_carries as law_live_carries
pub use Rattle.law_live_woken.specs.law_live_hearing as law_live_hearing
pub use Rattle.law_live_woken.specs.law_live_meetings as law_live_meetings
pub use Rattle.law_live_woken.specs.law_live_orders as law_live_orders
pub use Rattle.law_live_woken.specs.law_live_saying as law_live_saying
pub use Rattle.law_live_woken.specs.law_live_tables as law_live_tables
pub use Rattle.law_live_woken.specs.law_live_waking as law_live_waking
pub use Rattle.law_live_woken.specs.law_live_waking_links as law_live_waking_links
pub use Rattle.law_live_woken.specs.law_live_worlds as law_live_worlds
pub use Rattle.law_live_woken.specs.law_passing as law_passing
pub use Rattle.law_live_woken.specs.law_port_facts as law_port_facts
pub use Rattle.law_live_woken.specs.law_port_views as law_port_views
pub use Rattle.law_live_woken.specs.law_run_facts as law_run_facts
pub use Rattle.law_live_woken.specs.law_shown_cells as law_shown_cells
pub use Rattle.law_live_woken.specs.law_true_runs as law_true_runs
pub mod Law
