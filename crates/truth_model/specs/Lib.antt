pub use Rattle.claims_model.specs as claims_model
pub use Rattle.telling_model.specs as telling_model
pub mod Way
pub mod Sent
pub mod Cut
pub mod Open
pub mod Losses
pub mod Run
pub mod Lines
