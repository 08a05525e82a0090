pub mod Lists
pub mod Cells
pub mod Notes
pub mod Controllers
pub mod Rules
pub mod Meeting
pub mod Frames
