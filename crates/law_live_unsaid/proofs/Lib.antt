pub mod Since
pub mod Walks
pub mod Answers
pub mod Packets
pub mod Unanswered
pub mod Carries
