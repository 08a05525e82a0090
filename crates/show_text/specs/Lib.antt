pub mod Words
pub mod Node
pub mod Port
pub mod Switch
pub mod Shown
pub mod Views
