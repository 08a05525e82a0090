pub use Rattle.network_model.specs.ipv4_packet as ipv4_packet
pub use Rattle.network_model.specs.ipv4_forward as ipv4_forward
pub use Rattle.network_model.specs.flow_encaps as flow_encaps
pub use Rattle.network_model.specs.ifmp_wire as ifmp_wire
pub use Rattle.network_model.specs.gsmp_wire as gsmp_wire
pub use Rattle.network_model.specs.adjacency_table as adjacency_table
pub use Rattle.network_model.specs.crossbar_model as crossbar_model
pub use Rattle.network_model.specs.link_model as link_model
pub use Rattle.network_model.specs.frame_model as frame_model
pub use Rattle.network_model.specs.port_model as port_model
pub use Rattle.network_model.specs.switch_model as switch_model
pub use Rattle.network_model.specs.controller_model as controller_model
pub use Rattle.network_model.specs as network_model
pub use Rattle.network_model.specs.aal5_frames as aal5_frames
pub use Rattle.network_model.specs.switch_model.Switch as Switch
pub use Rattle.network_model.specs.switch_model.Requests as Requests
pub use Rattle.network_model.specs.switch_model.Failures as Failures
pub use Rattle.network_model.specs.switch_model.Answers as Answers
pub use Rattle.network_model.specs.switch_model.Conduct as Conduct
pub use Rattle.network_model.specs.controller_model.Controller as Controller
pub use Rattle.network_model.specs.controller_model.Sending as Sending
pub use Rattle.network_model.specs.controller_model.Resets as Resets
pub use Rattle.network_model.specs.controller_model.Asking as Asking
pub use Rattle.network_model.specs.controller_model.Performing as Performing
pub use Rattle.network_model.specs.controller_model.Routes as Routes
pub use Rattle.network_model.specs.controller_model.Joins as Joins
pub use Rattle.network_model.specs.controller_model.Changes as Changes
pub use Rattle.network_model.specs.controller_model.Meeting as Meeting
pub use Rattle.network_model.specs.controller_model.Gsmp as Gsmp
pub use Rattle.network_model.specs.controller_model.Packets as Packets
pub use Rattle.network_model.specs.controller_model.Cells as Cells
pub use Rattle.network_model.specs.controller_model.Ticks as Ticks
pub use Rattle.network_model.specs.controller_model.Opening as Opening
pub use Rattle.network_model.specs.Limits as Limits
pub use Rattle.network_model.specs.Topology as Topology
pub use Rattle.network_model.specs.Lines as Lines
pub use Rattle.network_model.specs.Events as Events
pub use Rattle.network_model.specs.World as World
pub use Rattle.network_model.specs.Conditions as Conditions
pub use Rattle.network_model.specs.Places as Places
pub use Rattle.network_model.specs.Step as Step
pub use Rattle.network_model.specs.Run as Run
pub mod Fates
pub mod Beside
pub mod Journey
pub mod Reached
pub mod Ways
pub mod Past
pub mod Users
pub mod Owned
pub mod Sent
pub mod Stretches
pub mod Causes
pub mod Headline
pub mod Words
