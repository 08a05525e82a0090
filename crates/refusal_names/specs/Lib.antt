pub use Rattle.flow_encaps.specs as flow_encaps
pub use Rattle.ifmp_wire.specs as ifmp_wire
pub mod Names
