pub mod OpeningTables
pub mod Sayings
