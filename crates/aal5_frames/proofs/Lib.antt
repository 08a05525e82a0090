pub mod Cells
pub mod Trailer
