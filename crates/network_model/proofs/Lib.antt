pub use Rattle.ipv4_forward.proofs as ipv4_forward
pub use Rattle.net_types.proofs as net_types
pub use Rattle.ipv4_forward.proofs.ipv4_packet as ipv4_packet
pub use Rattle.switch_model.proofs.flow_encaps as flow_encaps
pub use Rattle.switch_model.proofs.adjacency_table as adjacency_table
pub use Rattle.switch_model.proofs.link_model as link_model
pub use Rattle.switch_model.proofs.aal5_frames as aal5_frames
