pub use Rattle.law_port_views.proofs.octet_fields as octet_fields
pub use Rattle.law_port_views.proofs.ordered_lists as ordered_lists
pub use Rattle.law_port_views.proofs.law_port_facts as law_port_facts
pub use Rattle.law_port_views.proofs as law_port_views
pub mod Follow
pub mod Quiet
pub mod Counting
pub mod Joins
pub mod Unspent
