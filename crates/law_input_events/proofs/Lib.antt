pub use Rattle.law_input_premises.proofs.law_controller as law_controller
pub use Rattle.law_input_premises.proofs.law_input_steps as law_input_steps
pub use Rattle.law_input_premises.proofs as law_input_premises
pub use Rattle.law_input_premises.proofs.world_model as world_model
pub mod Packets
pub mod Cells
pub mod Growing
pub mod Spoken
pub mod Answering
pub mod Heard
pub mod Sites
pub mod Acting
pub mod Carrying
pub mod Returning
pub mod Ending
pub mod Listing
pub mod Back
pub mod Events
