pub use Rattle.telling_model.proofs as telling_model
pub mod Telling
pub mod Turns
pub mod AllTicks
pub mod Repeated
pub mod Empty
pub mod Passed
