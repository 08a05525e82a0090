pub use Rattle.net_types.specs as net_types
pub use Rattle.switch_model.specs.crossbar_model as crossbar_model
pub use Rattle.controller_model.specs.port_model as port_model
pub use Rattle.ipv4_forward.specs as ipv4_forward
pub use Rattle.ipv4_forward.specs.ipv4_packet as ipv4_packet
pub use Rattle.switch_model.specs.gsmp_wire as gsmp_wire
pub use Rattle.switch_model.specs.adjacency_table as adjacency_table
pub use Rattle.switch_model.specs.link_model as link_model
pub use Rattle.switch_model.specs.atm_cells as atm_cells
pub use Rattle.controller_model.specs.keyed_lists as keyed_lists
pub use Rattle.controller_model.specs as controller_model
pub use Rattle.switch_model.specs.flow_encaps as flow_encaps
pub use Rattle.switch_model.specs.ifmp_wire as ifmp_wire
pub use Rattle.switch_model.specs as switch_model
pub use Rattle.switch_model.specs.frame_model as frame_model
pub use Rattle.switch_model.specs.refusal_names as refusal_names
pub use Rattle.switch_model.specs.aal5_frames as aal5_frames
pub mod Limits
pub mod Topology
pub mod Lines
pub mod Events
pub mod World
pub mod Conditions
pub mod Places
pub mod Step
pub mod Run
