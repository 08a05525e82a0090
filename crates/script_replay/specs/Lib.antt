pub mod Report
pub mod Reading
pub use Rattle.network_replay.specs as network_replay
pub mod DocumentLines
pub mod Drill
pub mod Silence
