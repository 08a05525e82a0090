pub mod Scripts
pub mod Audited
pub mod Sayable
pub mod Whole
pub mod Octets
