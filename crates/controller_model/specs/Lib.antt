pub use Rattle.port_model.specs as port_model
pub use Rattle.port_model.specs.keyed_lists as keyed_lists
pub mod Controller
pub mod Sending
pub mod Resets
pub mod Asking
pub mod Performing
pub mod Routes
pub mod Joins
pub mod Changes
pub mod Meeting
pub mod Gsmp
pub mod Packets
pub mod Cells
pub mod Ticks
pub mod Opening
