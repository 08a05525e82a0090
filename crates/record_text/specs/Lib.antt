pub use Rattle.script_model.specs as script_model
pub mod Words
pub mod Forms
pub mod Reading
pub mod Readable
