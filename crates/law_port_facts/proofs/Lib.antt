pub use Rattle.port_model.proofs.octet_fields as octet_fields
pub use Rattle.ordered_lists.proofs as ordered_lists
pub mod port_model
pub mod Keyed
pub mod Steps
pub mod Found
pub mod Rules
pub mod Hearings
pub mod Turns
pub mod Kept
pub mod Joins
pub mod Instances
pub mod Halting
pub mod Weights
pub mod Weighed
pub mod Shut
pub mod Said
