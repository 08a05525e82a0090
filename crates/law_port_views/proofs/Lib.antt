pub use Rattle.law_port_facts.proofs.octet_fields as octet_fields
pub use Rattle.law_port_facts.proofs.ordered_lists as ordered_lists
pub use Rattle.law_port_facts.proofs as law_port_facts
pub mod Reach
pub mod Lists
pub mod Flows
pub mod Queues
pub mod Says
pub mod Live
pub mod Tells
pub mod Labels
pub mod Grants
pub mod Resets
pub mod Greets
pub mod Hellos
pub mod Learns
pub mod Hearing
pub mod Taken
pub mod Others
pub mod Granting
pub mod Recalling
pub mod Recalls
pub mod Messages
pub mod Answering
pub mod Ticking
pub mod Refreshing
