pub use Rattle.law_quiet_controllers.proofs as law_quiet_controllers
pub mod Branches
pub mod SitePairs
pub mod Opening
pub mod Acts
pub mod Events
