pub mod HopLemmas
pub mod IdentifierLemmas
pub mod HeaderLemmas
pub mod MessageLemmas
pub mod RouteLemmas
pub mod WordLemmas
