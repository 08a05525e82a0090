pub use Rattle.law_live_mirrors.proofs as law_live_mirrors
pub use Rattle.law_live_nodes.proofs as law_live_nodes
pub use Rattle.law_live_ports.proofs as law_live_ports
pub mod Trying
pub mod Aging
pub mod Ticking
