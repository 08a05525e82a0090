pub use Rattle.law_run_facts.specs.law_controller_facts.claims_model.Order as Order
pub mod Owning
pub mod Copies
pub mod Places
pub mod Binds
