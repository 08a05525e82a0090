pub use Rattle.law_input_premises.specs.law_controller as law_controller
pub use Rattle.law_input_premises.specs.law_input_steps as law_input_steps
pub use Rattle.law_input_premises.specs as law_input_premises
pub mod Coming
