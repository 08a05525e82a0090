pub use Rattle.port_model.specs as port_model
pub use Rattle.gsmp_wire.specs as gsmp_wire
pub mod ByEnd
pub mod Requests
pub mod Answers
pub mod Later
