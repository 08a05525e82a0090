pub use Rattle.world_model.specs as world_model
pub use Rattle.record_text.specs.script_model as script_model
pub use Rattle.network_run.specs.telling_model as telling_model
pub mod Report
