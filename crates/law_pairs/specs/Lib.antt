pub use Rattle.law_quiet_controllers.specs as law_quiet_controllers
pub mod Events
pub mod Past
pub mod Settles
pub mod Asked
