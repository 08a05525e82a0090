pub use Rattle.law_controller_conditions.specs as law_controller_conditions
pub use Rattle.law_controller_conditions.specs.law_controller_facts as law_controller_facts
pub mod Events
pub mod Cells
