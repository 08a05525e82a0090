pub use Rattle.law_shown_cells.proofs.aal5_frames as aal5_frames
pub use Rattle.law_shown_cells.proofs.ordered_lists as ordered_lists
pub use Rattle.law_shown_cells.proofs.law_port_facts as law_port_facts
pub use Rattle.law_branch_line.proofs as law_branch_line
pub use Rattle.law_shown_cells.proofs as law_shown_cells
pub mod Follow
pub mod Cells
pub mod Quiet
