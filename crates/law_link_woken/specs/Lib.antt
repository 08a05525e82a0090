pub use Rattle.law_link_nodes.specs as law_link_nodes
pub use Rattle.law_link_nodes.specs.law_frame_readings as law_frame_readings
pub use Rattle.law_link_nodes.specs.law_link_names as law_link_names
pub use Rattle.law_link_nodes.specs.law_link_tables as law_link_tables
pub use Rattle.law_link_nodes.specs.law_live_hearing as law_live_hearing
pub use Rattle.law_link_nodes.specs.law_live_meetings as law_live_meetings
pub use Rattle.law_link_nodes.specs.law_live_orders as law_live_orders
pub use Rattle.law_link_nodes.specs.law_live_rested as law_live_rested
pub use Rattle.law_link_nodes.specs.law_live_tables as law_live_tables
pub use Rattle.law_link_nodes.specs.law_live_waking_links as law_live_waking_links
pub use Rattle.law_link_nodes.specs.law_live_woken as law_live_woken
pub use Rattle.law_link_nodes.specs.law_live_woken_links as law_live_woken_links
pub use Rattle.law_link_nodes.specs.law_live_worlds as law_live_worlds
pub use Rattle.law_link_nodes.specs.law_port_facts as law_port_facts
pub use Rattle.law_link_nodes.specs.law_run_facts as law_run_facts
pub use Rattle.law_link_nodes.specs.law_true_runs as law_true_runs
pub use Rattle.law_link_numbers.specs as law_link_numbers
pub use Rattle.law_link_orders.specs as law_link_orders
pub mod Given
pub mod Law
