pub use Rattle.lab_text.specs as lab_text
pub use Rattle.trace_model.specs as trace_model
pub use Rattle.script_model.specs as script_model
pub use Rattle.law_true_runs.specs as law_true_runs
pub mod Told
pub mod Law
