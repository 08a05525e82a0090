pub mod Places
pub mod Leading
pub mod Resting
pub mod Alike
pub mod Counting
pub mod Offering
pub mod Hearing
pub mod Flows
