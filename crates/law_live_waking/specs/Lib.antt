pub use Rattle.law_live_carries.specs as law_live_carries
pub use Rattle.law_live_hearing.specs as law_live_hearing
pub use Rattle.law_live_meetings.specs as law_live_meetings
pub use Rattle.law_live_orders.specs as law_live_orders
pub use Rattle.law_passing.specs as law_passing
pub use Rattle.law_run_facts.specs as law_run_facts
pub use Rattle.law_run_facts.specs.law_controller_facts as law_controller_facts
pub use Rattle.law_run_facts.specs.law_port_facts as law_port_facts
pub use Rattle.law_run_facts.specs.law_port_views as law_port_views
pub use Rattle.law_run_facts.specs.law_shown_cells as law_shown_cells
pub use Rattle.law_running_worlds.specs as law_running_worlds
pub use Rattle.law_running_worlds.specs.law_frame_readings as law_frame_readings
pub mod Greetings
pub mod Law
pub mod Beats
