pub use Rattle.law_causes.proofs as law_causes
pub use Rattle.law_control_places.proofs as law_control_places
pub use Rattle.law_frame_readings.proofs as law_frame_readings
pub use Rattle.law_live_arrivals.proofs as law_live_arrivals
pub use Rattle.law_live_control_links.proofs as law_live_control_links
pub use Rattle.law_live_elsewhere.proofs as law_live_elsewhere
pub use Rattle.law_live_frames.proofs as law_live_frames
pub use Rattle.law_live_going.proofs as law_live_going
pub use Rattle.law_live_hearing.proofs as law_live_hearing
pub use Rattle.law_live_links.proofs as law_live_links
pub use Rattle.law_live_nodes.proofs as law_live_nodes
pub use Rattle.law_live_orders.proofs as law_live_orders
pub use Rattle.law_live_others.proofs as law_live_others
pub use Rattle.law_live_passed_by.proofs as law_live_passed_by
pub use Rattle.law_live_saying.proofs as law_live_saying
pub use Rattle.law_live_unsaid.proofs as law_live_unsaid
pub use Rattle.law_live_ways.proofs as law_live_ways
pub use Rattle.law_live_worlds.proofs as law_live_worlds
pub use Rattle.law_run_facts.proofs as law_run_facts
pub use Rattle.law_running_worlds.proofs as law_running_worlds
pub use Rattle.law_true_runs.proofs as law_true_runs
pub mod Carries
pub mod Runs
pub mod Hearing
pub mod Others
pub mod Going
pub mod Beats
