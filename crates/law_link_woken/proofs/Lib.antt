pub use Rattle.law_link_nodes.proofs.law_causes as law_causes
pub use Rattle.law_link_nodes.proofs.law_frame_readings as law_frame_readings
pub use Rattle.law_link_nodes.proofs.law_live_frames as law_live_frames
pub use Rattle.law_link_nodes.proofs.law_live_hearing as law_live_hearing
pub use Rattle.law_link_nodes.proofs.law_live_meetings as law_live_meetings
pub use Rattle.law_link_nodes.proofs.law_live_orders as law_live_orders
pub use Rattle.law_link_nodes.proofs.law_live_tables as law_live_tables
pub use Rattle.law_link_nodes.proofs.law_live_waking_links as law_live_waking_links
pub use Rattle.law_link_nodes.proofs.law_live_woken_links as law_live_woken_links
pub use Rattle.law_link_nodes.proofs.law_port_facts as law_port_facts
pub use Rattle.law_link_nodes.proofs.law_run_facts as law_run_facts
pub use Rattle.law_link_nodes.proofs.law_true_runs as law_true_runs
pub use Rattle.law_link_nodes.proofs.law_unused_labels as law_unused_labels
pub use Rattle.law_link_numbers.proofs as law_link_numbers
pub mod Keeping
pub mod Packets
pub mod Events
pub mod Wake
