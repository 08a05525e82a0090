pub mod aal5_frames
pub mod Ports
pub mod Controllers
pub mod Changes
pub mod Cells
