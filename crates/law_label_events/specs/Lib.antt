pub use Rattle.law_actor_pace.specs.ordered_lists as ordered_lists
pub use Rattle.law_controller_lifts.specs.law_port_facts as law_port_facts
pub use Rattle.law_controller_lifts.specs.law_controller_facts as law_controller_facts
pub use Rattle.law_controller_lifts.specs.law_label_line as law_label_line
pub use Rattle.law_controller_lifts.specs.law_port_views as law_port_views
pub use Rattle.law_controller_lifts.specs.law_shown_cells as law_shown_cells
pub use Rattle.law_controller_lifts.specs.law_controller_views as law_controller_views
pub use Rattle.law_controller_lifts.specs.law_arrival_views as law_arrival_views
pub use Rattle.law_world_views.specs as law_world_views
pub mod Queues
pub mod Acts
