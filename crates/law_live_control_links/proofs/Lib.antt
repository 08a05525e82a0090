pub mod Sides
pub mod Switches
pub mod Controllers
pub mod Sites
pub mod Reading
pub mod Events
pub mod Runs
pub mod Heard
