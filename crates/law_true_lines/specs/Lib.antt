pub use Rattle.truth_model.specs.Lines as Lines
pub mod Law
