pub use Rattle.law_link_names.proofs.law_causes as law_causes
pub use Rattle.law_link_names.proofs.law_frame_readings as law_frame_readings
pub use Rattle.law_link_names.proofs.law_live_frames as law_live_frames
pub use Rattle.law_link_names.proofs.law_live_hearing as law_live_hearing
pub use Rattle.law_link_names.proofs.law_live_meetings as law_live_meetings
pub use Rattle.law_link_names.proofs.law_live_orders as law_live_orders
pub use Rattle.law_link_names.proofs.law_live_tables as law_live_tables
pub use Rattle.law_link_names.proofs.law_live_waking_links as law_live_waking_links
pub use Rattle.law_link_names.proofs.law_live_woken_links as law_live_woken_links
pub use Rattle.law_link_names.proofs.law_passing as law_passing
pub use Rattle.law_link_names.proofs.law_port_facts as law_port_facts
pub use Rattle.law_link_names.proofs.law_run_facts as law_run_facts
pub use Rattle.law_link_names.proofs.law_true_runs as law_true_runs
pub use Rattle.law_link_names.proofs.law_unused_labels as law_unused_labels
pub mod Acks
pub mod Lately
pub mod Beats
pub mod Runs
pub mod Glue
