pub mod Touch
pub mod Law
