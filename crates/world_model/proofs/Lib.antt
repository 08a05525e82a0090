pub use Rattle.network_model.proofs.net_types as net_types
pub use Rattle.network_model.proofs.ipv4_packet as ipv4_packet
pub use Rattle.network_model.proofs.flow_encaps as flow_encaps
pub use Rattle.network_model.proofs.adjacency_table as adjacency_table
pub use Rattle.network_model.proofs.link_model as link_model
pub use Rattle.network_model.proofs.aal5_frames as aal5_frames
mod ControllerLives
pub mod Lists
pub mod Queues
pub mod Made
pub mod Kept
pub mod Opening
pub mod Lives
mod LineLives
mod SwitchLives
