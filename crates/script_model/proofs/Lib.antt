pub use Rattle.world_model.proofs as world_model
mod Refusals
mod Documents
mod Drills
mod Reports
pub mod Numbers
pub mod ReadBack
pub mod Tokens
pub mod WordTexts
pub mod ReadAgain
pub mod Spelled
pub mod ReadForms
pub mod ReadLines
pub mod Described
