pub use Rattle.port_state.specs as port_state
pub use Rattle.controller_link.specs as controller_link
pub use Rattle.controller_gsmp.specs as controller_gsmp
pub mod Engine
pub mod Node
pub mod Conditions
pub mod Meeting
pub mod Packets
pub mod Cells
