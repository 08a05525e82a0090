pub use Rattle.octet_fields.specs as octet_fields
pub mod Failures
pub mod Fields
pub mod Layout
pub mod Outcomes
pub mod Parts
pub mod Range
pub mod Refusal
