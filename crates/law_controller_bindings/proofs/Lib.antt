pub use Rattle.law_controller.proofs.octet_fields as octet_fields
pub use Rattle.law_controller.proofs.ordered_lists as ordered_lists
pub use Rattle.law_controller.proofs.law_port_facts as law_port_facts
pub use Rattle.law_controller.proofs.law_controller_facts as law_controller_facts
pub use Rattle.law_controller.proofs as law_controller
pub mod Lasts
pub mod Working
pub mod Anew
pub mod Tied
pub mod Performing
pub mod Flows
pub mod Joining
pub mod Answering
pub mod Events
pub mod Laws
