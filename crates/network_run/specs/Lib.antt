pub use Rattle.telling_model.specs as telling_model
pub mod Telling
pub mod Coming
pub mod Behind
pub mod Empty
pub mod Plain
