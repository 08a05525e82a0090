pub use Rattle.claims_model.specs.Tables as Tables
pub mod Law
