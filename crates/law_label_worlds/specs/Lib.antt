pub use Rattle.law_pairs.specs as law_pairs
pub mod Conduct
pub mod Enters
