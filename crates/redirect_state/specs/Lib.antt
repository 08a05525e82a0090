pub use Rattle.port_state.specs as port_state
pub mod Calls
pub mod Rules
