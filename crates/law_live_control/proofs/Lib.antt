pub mod Sides
pub mod Reading
pub mod Switches
pub mod Since
pub mod Walks
pub mod Controllers
