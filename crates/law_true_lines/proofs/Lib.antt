pub mod Texts
pub mod Fronts
pub mod Words
pub mod Names
pub mod Claimed
pub mod Reports
