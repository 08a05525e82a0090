pub use Rattle.world_model.specs.port_model as port_model
pub use Rattle.world_model.specs as world_model
pub use Rattle.rule_model.specs.lab_text as lab_text
pub mod Limits
pub mod Names
pub mod Forms
pub mod Grammar
pub mod State
pub mod Meaning
pub mod Reading
pub mod Script
pub mod Documents
pub mod Texts
pub mod Writing
pub mod Records
pub mod Reports
pub mod Judgement
pub mod Ideal
pub mod Drill
pub mod Sayable
