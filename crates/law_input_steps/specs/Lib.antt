pub use Rattle.law_input_views.specs.law_branch_line as law_branch_line
pub use Rattle.law_input_views.specs.law_shown_cells as law_shown_cells
pub use Rattle.law_input_views.specs as law_input_views
pub mod Part
pub mod Asking
pub mod Hearing
pub mod Meeting
pub mod Ticks
pub mod Done
