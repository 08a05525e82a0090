pub use Rattle.law_gsmp_reading.proofs as law_gsmp_reading
pub use Rattle.law_live_carries.proofs as law_live_carries
pub use Rattle.law_live_control.proofs as law_live_control
pub use Rattle.law_live_peace.proofs as law_live_peace
pub use Rattle.law_live_peace.proofs.law_causes as law_causes
pub use Rattle.law_live_peace.proofs.law_control_places as law_control_places
pub use Rattle.law_live_peace.proofs.law_frame_readings as law_frame_readings
pub use Rattle.law_live_peace.proofs.law_live_arrivals as law_live_arrivals
pub use Rattle.law_live_peace.proofs.law_live_control_links as law_live_control_links
pub use Rattle.law_live_peace.proofs.law_live_elsewhere as law_live_elsewhere
pub use Rattle.law_live_peace.proofs.law_live_frames as law_live_frames
pub use Rattle.law_live_peace.proofs.law_live_going as law_live_going
pub use Rattle.law_live_peace.proofs.law_live_hearing as law_live_hearing
pub use Rattle.law_live_peace.proofs.law_live_links as law_live_links
pub use Rattle.law_live_peace.proofs.law_live_nodes as law_live_nodes
pub use Rattle.law_live_peace.proofs.law_live_orders as law_live_orders
pub use Rattle.law_live_peace.proofs.law_live_others as law_live_others
pub use Rattle.law_live_peace.proofs.law_live_passed_by as law_live_passed_by
pub use Rattle.law_live_peace.proofs.law_live_saying as law_live_saying
pub use Rattle.law_live_peace.proofs.law_live_unsaid as law_live_unsaid
pub use Rattle.law_live_peace.proofs.law_live_ways as law_live_ways
pub use Rattle.law_live_peace.proofs.law_live_worlds as law_live_worlds
pub use Rattle.law_live_peace.proofs.law_run_facts as law_run_facts
pub use Rattle.law_live_peace.proofs.law_running_worlds as law_running_worlds
pub use Rattle.law_live_peace.proofs.law_true_runs as law_true_runs
pub use Rattle.law_live_ports.proofs as law_live_ports
pub use Rattle.law_live_unseen.proofs as law_live_unseen
pub use Rattle.law_passing.proofs as law_passing
pub mod Parts
pub mod Events
pub mod Ticks
pub mod Ports
pub mod Resting
pub mod Heard
pub mod Nodes
pub mod Control
pub mod Links
pub mod Networks
