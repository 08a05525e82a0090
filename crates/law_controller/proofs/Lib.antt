pub use Rattle.law_controller_facts.proofs.octet_fields as octet_fields
pub use Rattle.law_controller_facts.proofs.ordered_lists as ordered_lists
pub use Rattle.law_controller_facts.proofs.law_port_facts as law_port_facts
pub use Rattle.law_controller_facts.proofs as law_controller_facts
pub use Rattle.law_controller_facts.proofs.world_model as world_model
pub mod Lists
pub mod Asked
pub mod Resetting
pub mod Ordering
pub mod Holding
pub mod Performing
pub mod Saying
pub mod Releasing
pub mod Entering
pub mod Steady
pub mod Meeting
pub mod Events
pub mod Counting
pub mod Laws
pub mod Actions
pub mod Pairing
pub mod Matched
pub mod Desk
pub mod Matching
pub mod Clearing
pub mod Parting
pub mod Settling
pub mod Whole
pub mod Changing
pub mod Answering
