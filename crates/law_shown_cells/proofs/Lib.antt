pub mod aal5_frames
pub use Rattle.law_port_views.proofs.ordered_lists as ordered_lists
pub use Rattle.law_port_views.proofs.law_port_facts as law_port_facts
pub use Rattle.law_port_views.proofs as law_port_views
pub mod Shows
pub mod Made
pub mod Frames
pub mod Tested
