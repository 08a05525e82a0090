pub use Rattle.law_quiet_controllers.specs as law_quiet_controllers
