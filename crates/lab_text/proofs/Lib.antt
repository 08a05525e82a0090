pub mod NumeralLemmas
pub mod WordLemmas
pub mod LineLemmas
pub mod Searches
pub mod Fronts
