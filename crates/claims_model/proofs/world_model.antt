-- what the crates above use of the lemmas of `world_model` and of the crates that it stands on

pub mod net_types
pub mod ipv4_packet
pub mod flow_encaps
pub mod adjacency_table
pub mod link_model
pub use Rattle.world_model.proofs.Lists as Lists
pub use Rattle.world_model.proofs.Queues as Queues
pub use Rattle.world_model.proofs.Opening as Opening
