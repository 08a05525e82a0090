pub use Rattle.link_model.specs.ipv4_packet as ipv4_packet
pub use Rattle.ifmp_wire.specs as ifmp_wire
pub use Rattle.gsmp_wire.specs as gsmp_wire
pub use Rattle.adjacency_table.specs as adjacency_table
pub use Rattle.link_model.specs as link_model
pub use Rattle.keyed_lists.specs as keyed_lists
pub use Rattle.crossbar_model.specs as crossbar_model
pub use Rattle.gsmp_wire.specs.octet_fields as octet_fields
pub mod Requests
pub mod Messages
pub mod Desk
pub mod DeskAnswers
pub mod Setup
pub mod Labels
pub mod Grants
pub mod Counts
pub mod Port
pub mod Resets
pub mod Saying
pub mod Counting
pub mod Redirection
pub mod Adjacency
pub mod Reclaiming
pub mod Hearing
pub mod Answers
pub mod Joins
pub mod Ticks
pub mod Words
