pub use Rattle.law_controller.proofs.ordered_lists as ordered_lists
pub use Rattle.law_controller.proofs.law_port_facts as law_port_facts
pub use Rattle.law_controller.proofs.law_controller_facts as law_controller_facts
pub use Rattle.law_controller.proofs as law_controller
pub use Rattle.law_input_steps.proofs.law_branch_line as law_branch_line
pub use Rattle.law_input_steps.proofs.law_shown_cells as law_shown_cells
pub use Rattle.law_input_steps.proofs.law_input_views as law_input_views
pub use Rattle.law_input_steps.proofs as law_input_steps
pub use Rattle.law_controller.proofs.world_model as world_model
pub mod Unhalted
pub mod Rows
pub mod Asking
pub mod Free
pub mod Resetting
pub mod Working
pub mod Releasing
pub mod Changing
pub mod Trying
pub mod Finishing
pub mod Ticking
pub mod Written
pub mod Reading
pub mod Steady
