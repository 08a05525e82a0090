pub use Rattle.law_controller.proofs.ordered_lists as ordered_lists
pub use Rattle.law_controller.proofs.law_port_facts as law_port_facts
pub use Rattle.law_controller.proofs.law_controller_facts as law_controller_facts
pub use Rattle.law_controller.proofs as law_controller
pub mod Ready
pub mod Channels
pub mod Restarting
pub mod Asking
pub mod Doing
pub mod Working
pub mod Rules
pub mod Meeting
pub mod Kept
pub mod Calls
pub mod Opening
pub mod Receiving
pub mod Cells
pub mod Leaving
pub mod Leading
