pub mod Frames
pub mod Cells
pub mod Carries
