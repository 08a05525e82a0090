pub use Rattle.script_model.proofs as script_model
pub mod Linked
pub mod Flows
pub mod WordsBack
pub mod Told
pub mod Readings
pub mod Parts
pub mod Addresses
