pub use Rattle.law_live_carries.proofs as law_live_carries
pub use Rattle.law_live_control_links.proofs as law_live_control_links
pub use Rattle.law_live_frames.proofs as law_live_frames
pub use Rattle.law_live_hearing.proofs as law_live_hearing
pub use Rattle.law_live_meetings.proofs as law_live_meetings
pub use Rattle.law_live_orders.proofs as law_live_orders
pub use Rattle.law_passing.proofs as law_passing
pub use Rattle.law_rule_walks.proofs as law_rule_walks
pub use Rattle.law_run_facts.proofs as law_run_facts
pub use Rattle.law_run_facts.proofs.law_controller_facts as law_controller_facts
pub use Rattle.law_run_facts.proofs.law_port_facts as law_port_facts
pub use Rattle.law_run_facts.proofs.law_shown_cells as law_shown_cells
pub use Rattle.law_running_worlds.proofs as law_running_worlds
pub use Rattle.law_running_worlds.proofs.law_causes as law_causes
pub use Rattle.law_running_worlds.proofs.law_frame_readings as law_frame_readings
pub use Rattle.law_running_worlds.proofs.law_frame_readings.law_controller_lifts as law_controller_lifts
pub mod Greetings
pub mod Rooms
pub mod Sites
pub mod Made
pub mod Switches
pub mod Controllers
pub mod Cells
pub mod SwitchCells
pub mod Events
pub mod Runs
pub mod Exchanges
pub mod Beats
