pub use Rattle.law_quiet_controllers.proofs as law_quiet_controllers
pub mod Lent
pub mod Keeping
pub mod Lasting
pub mod Tries
pub mod Entered
pub mod Unmet
pub mod Ending
