pub use Rattle.script_model.specs.lab_text as lab_text
pub use Rattle.script_model.specs as script_model
pub mod Placed
pub mod Passing
pub mod Reached
pub mod Tale
