pub use Rattle.node_controller.specs as node_controller
pub use Rattle.law_world_pace.specs as law_world_pace
pub mod Counted
pub mod Network
pub mod NodeSet
pub mod Waiting
pub mod Running
pub mod Coming
pub mod Inputs
pub mod Opening
pub mod Empty
