pub use Rattle.link_model.specs as link_model
pub use Rattle.atm_cells.specs as atm_cells
pub use Rattle.aal5_frames.specs as aal5_frames
pub mod Reassembly
pub mod Frame
pub mod Sending
pub mod Stretch
