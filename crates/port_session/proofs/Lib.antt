pub mod Keyed
pub mod Changed
pub mod Spares
pub mod Passing
