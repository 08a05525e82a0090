pub use Rattle.law_live_sending.proofs as law_live_sending
pub use Rattle.law_live_waking_links.proofs as law_live_waking_links
pub use Rattle.law_live_waking_links.proofs.law_causes as law_causes
pub use Rattle.law_live_waking_links.proofs.law_controller_facts as law_controller_facts
pub use Rattle.law_live_waking_links.proofs.law_controller_lifts as law_controller_lifts
pub use Rattle.law_live_waking_links.proofs.law_frame_readings as law_frame_readings
pub use Rattle.law_live_waking_links.proofs.law_live_carries as law_live_carries
pub use Rattle.law_live_waking_links.proofs.law_live_control_links as law_live_control_links
pub use Rattle.law_live_waking_links.proofs.law_live_frames as law_live_frames
pub use Rattle.law_live_waking_links.proofs.law_live_hearing as law_live_hearing
pub use Rattle.law_live_waking_links.proofs.law_live_meetings as law_live_meetings
pub use Rattle.law_live_waking_links.proofs.law_live_orders as law_live_orders
pub use Rattle.law_live_waking_links.proofs.law_live_waking as law_live_waking
pub use Rattle.law_live_waking_links.proofs.law_passing as law_passing
pub use Rattle.law_live_waking_links.proofs.law_port_facts as law_port_facts
pub use Rattle.law_live_waking_links.proofs.law_rule_walks as law_rule_walks
pub use Rattle.law_live_waking_links.proofs.law_run_facts as law_run_facts
pub use Rattle.law_live_waking_links.proofs.law_running_worlds as law_running_worlds
pub mod Plain
pub mod Leaving
pub mod Working
pub mod Ticking
pub mod Greeting
pub mod Ticks
pub mod Answers
pub mod Heard
