pub mod Room
pub mod Hearing
pub mod Spending
pub mod Answers
pub mod Ticking
pub mod Holding
