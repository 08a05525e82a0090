pub use Rattle.net_types.proofs as net_types
pub use Rattle.adjacency_table.proofs as adjacency_table
pub use Rattle.gsmp_wire.proofs.octet_fields as octet_fields
mod DeskLives
mod Sample
mod LabelLives
mod GrantLives
