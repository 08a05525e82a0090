pub use Rattle.network_run.proofs.telling_model as telling_model
pub mod LastLine
pub mod RecordLines
