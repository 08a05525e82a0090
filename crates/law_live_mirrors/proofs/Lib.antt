pub use Rattle.law_controller.proofs as law_controller
pub use Rattle.law_live_labels.proofs as law_live_labels
pub use Rattle.law_port_facts.proofs as law_port_facts
pub use Rattle.law_input_steps.proofs as law_input_steps
pub mod Leading
pub mod Fitting
pub mod Switches
pub mod Desks
pub mod Ports
pub mod Nodes
pub mod Free
pub mod Counting
pub mod Redirects
pub mod Joining
pub mod Answered
pub mod Successes
pub mod Alone
