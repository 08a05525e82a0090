pub mod AcceptLemmas
pub mod ReadLemmas
pub mod WriteLemmas
