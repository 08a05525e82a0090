pub use Rattle.law_shown_cells.specs.aal5_frames as aal5_frames
pub use Rattle.law_shown_cells.specs.ordered_lists as ordered_lists
pub use Rattle.law_branch_line.specs as law_branch_line
pub use Rattle.law_shown_cells.specs as law_shown_cells
pub use Rattle.law_shown_cells.specs.world_model as world_model
pub mod Words
pub mod Shown
pub mod Reaching
pub mod Quiet
