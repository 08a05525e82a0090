pub mod Law
pub mod Messages
pub mod Hearing
pub mod Shapes
pub mod Slots
