pub use Rattle.script_replay.specs as script_replay
pub mod Task
pub mod Fault
pub mod Lined
pub mod View
pub mod Ending
pub mod Run
