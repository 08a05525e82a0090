pub mod Eventless
pub mod Reports
