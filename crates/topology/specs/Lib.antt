pub use Rattle.world_model.specs as world_model
pub mod Taking
pub mod Indexes
pub mod Settings
pub mod Made
pub mod Readers
pub mod Plans
