pub use Rattle.law_unused_labels.proofs as law_unused_labels
pub mod Users
pub mod Knows
pub mod Joined
pub mod Words
pub mod Reclaims
pub mod Own
pub mod Ways
pub mod Binds
pub mod Matching
pub mod Heard
pub mod Numbers
pub mod Order
pub mod Copies
