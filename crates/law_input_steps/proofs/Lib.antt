pub use Rattle.law_input_views.proofs.law_branch_line as law_branch_line
pub use Rattle.law_input_views.proofs.law_shown_cells as law_shown_cells
pub use Rattle.law_input_views.proofs as law_input_views
pub mod Goes
pub mod Lists
pub mod Ends
pub mod Reach
pub mod Queues
pub mod Sent
pub mod Asks
pub mod Again
pub mod Resets
pub mod Branches
pub mod Parties
pub mod Switching
pub mod Handled
pub mod SwitchCells
pub mod Greeted
pub mod Answered
pub mod Sizes
pub mod Listed
pub mod Taken
pub mod Acts
pub mod ControllerCells
pub mod Held
pub mod Ticks
pub mod Done
pub mod Switched
