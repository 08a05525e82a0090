pub use Rattle.law_passing.specs.telling_model as telling_model
pub mod Law
