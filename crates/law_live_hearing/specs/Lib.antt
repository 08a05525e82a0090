pub mod Law
pub mod Shapes
