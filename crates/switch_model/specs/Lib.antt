pub use Rattle.frame_model.specs.link_model as link_model
pub use Rattle.crossbar_model.specs.atm_cells as atm_cells
pub use Rattle.crossbar_model.specs as crossbar_model
pub use Rattle.gsmp_wire.specs as gsmp_wire
pub use Rattle.adjacency_table.specs as adjacency_table
pub use Rattle.refusal_names.specs.flow_encaps as flow_encaps
pub use Rattle.refusal_names.specs.ifmp_wire as ifmp_wire
pub use Rattle.frame_model.specs as frame_model
pub use Rattle.refusal_names.specs as refusal_names
pub use Rattle.frame_model.specs.aal5_frames as aal5_frames
pub mod Switch
pub mod Requests
pub mod Failures
pub mod Answers
pub mod Conduct
