pub use Rattle.law_port_facts.proofs.octet_fields as octet_fields
pub use Rattle.law_port_facts.proofs.ordered_lists as ordered_lists
pub use Rattle.law_port_facts.proofs as law_port_facts
pub use Rattle.claims_model.proofs.world_model as world_model
pub mod Onward
pub mod Moves
pub mod Nodes
pub mod Performing
pub mod Joining
pub mod Entering
pub mod Lifetimes
pub mod Events
pub mod Desks
pub mod Unmet
pub mod Numbers
pub mod Draws
pub mod Drawn
pub mod Marks
pub mod TakenBack
pub mod Marked
pub mod MarkedInputs
pub mod Refusals
pub mod Laws
pub mod Each
pub mod Conditions
pub mod Flows
