pub use Rattle.law_link_woken.proofs as law_link_woken
pub use Rattle.law_link_woken.proofs.law_frame_readings as law_frame_readings
pub use Rattle.law_link_woken.proofs.law_link_numbers as law_link_numbers
pub use Rattle.law_link_woken.proofs.law_live_frames as law_live_frames
pub use Rattle.law_link_woken.proofs.law_live_hearing as law_live_hearing
pub use Rattle.law_link_woken.proofs.law_live_meetings as law_live_meetings
pub use Rattle.law_link_woken.proofs.law_live_orders as law_live_orders
pub use Rattle.law_link_woken.proofs.law_live_tables as law_live_tables
pub use Rattle.law_link_woken.proofs.law_port_facts as law_port_facts
pub use Rattle.law_link_woken.proofs.law_run_facts as law_run_facts
pub mod Exchange
pub mod Up
pub mod Lately
