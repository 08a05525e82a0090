pub use Rattle.law_frame_readings.specs.ordered_lists as ordered_lists
pub use Rattle.law_frame_readings.specs.law_port_facts as law_port_facts
pub use Rattle.law_frame_readings.specs.law_controller_facts as law_controller_facts
pub use Rattle.law_branch_shapes.specs.law_controller_bindings as law_controller_bindings
pub use Rattle.law_frame_readings.specs.law_shown_cells as law_shown_cells
pub use Rattle.law_input_events.specs.law_input_steps as law_input_steps
pub use Rattle.law_frame_readings.specs.law_world_views as law_world_views
pub use Rattle.law_frame_readings.specs as law_frame_readings
pub use Rattle.law_input_events.specs as law_input_events
pub use Rattle.law_run_facts.specs as law_run_facts
pub mod Running
pub mod Mode
pub mod New
pub mod Fine
pub mod Calls
pub mod Left
