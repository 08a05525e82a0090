pub use Rattle.law_link_woken.specs as law_link_woken
pub use Rattle.law_link_woken.specs.law_frame_readings as law_frame_readings
pub use Rattle.law_link_woken.specs.law_link_numbers as law_link_numbers
pub use Rattle.law_link_woken.specs.law_link_tables as law_link_tables
pub use Rattle.law_link_woken.specs.law_live_hearing as law_live_hearing
pub use Rattle.law_link_woken.specs.law_live_meetings as law_live_meetings
pub use Rattle.law_link_woken.specs.law_live_orders as law_live_orders
pub use Rattle.law_link_woken.specs.law_live_rested as law_live_rested
pub use Rattle.law_link_woken.specs.law_live_tables as law_live_tables
pub use Rattle.law_link_woken.specs.law_live_waking_links as law_live_waking_links
pub use Rattle.law_link_woken.specs.law_live_worlds as law_live_worlds
pub use Rattle.law_link_woken.specs.law_port_facts as law_port_facts
pub use Rattle.law_link_woken.specs.law_run_facts as law_run_facts
pub mod Law
