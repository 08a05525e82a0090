pub mod Following
pub mod Numerals
pub mod Octets
pub mod Sizes
