pub use Rattle.net_types.specs as net_types
pub mod Flow
pub mod Identifier
pub mod Parts
pub mod Packet
