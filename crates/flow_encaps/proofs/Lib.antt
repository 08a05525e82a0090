pub mod AnswerLemmas
pub mod CarryLemmas
pub mod GrowLemmas
pub mod RebuiltLemmas
