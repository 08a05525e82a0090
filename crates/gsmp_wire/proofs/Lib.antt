pub use Rattle.octet_fields.proofs as octet_fields
pub mod Decoding
pub mod Inverse
pub mod Places
pub mod Reading
pub mod RowSteps
pub mod Spelling
pub mod Tails
pub mod Writing
