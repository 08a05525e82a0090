pub use Rattle.controller_joins.specs.world_model as world_model
pub use Rattle.controller_joins.specs as controller_joins
pub use Rattle.law_join_facts.specs as law_join_facts
pub mod Joining
pub mod Conditions
pub mod Answers
