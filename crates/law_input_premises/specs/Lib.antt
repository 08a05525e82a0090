pub use Rattle.law_controller.specs.ordered_lists as ordered_lists
pub use Rattle.law_controller.specs.law_port_facts as law_port_facts
pub use Rattle.law_controller.specs.law_controller_facts as law_controller_facts
pub use Rattle.law_controller.specs as law_controller
pub use Rattle.law_input_steps.specs.law_branch_line as law_branch_line
pub use Rattle.law_input_steps.specs.law_shown_cells as law_shown_cells
pub use Rattle.law_input_steps.specs.law_input_views as law_input_views
pub use Rattle.law_input_steps.specs as law_input_steps
pub use Rattle.law_gsmp_reading.specs as law_gsmp_reading
pub use Rattle.law_controller.specs.world_model as world_model
pub mod Read
pub mod Steady
