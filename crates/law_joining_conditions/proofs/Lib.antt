pub use Rattle.law_controller_conditions.proofs as law_controller_conditions
pub mod Keeping
pub mod Granting
pub mod Releasing
pub mod Changing
pub mod Trying
pub mod Answering
pub mod Ticking
pub mod Events
pub mod Frames
