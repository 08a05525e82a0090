pub use Rattle.reassembly.specs as reassembly
pub mod Cells
pub mod Layout
pub mod Store
pub mod Link
