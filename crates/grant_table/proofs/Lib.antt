pub mod Places
pub mod Apart
pub mod Found
pub mod OfLabels
pub mod Tagged
