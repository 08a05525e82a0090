pub use Rattle.lab_text.specs as lab_text
pub mod Matching
pub mod Covering
pub mod Names
pub mod Reading
pub mod Lines
