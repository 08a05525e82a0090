pub use Rattle.controller_joining.specs as controller_joining
pub mod Frames
pub mod Right
pub mod Opening
pub mod Controlling
