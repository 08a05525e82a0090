pub use Rattle.port_session.specs as port_session
pub mod Engine
pub mod Parts
