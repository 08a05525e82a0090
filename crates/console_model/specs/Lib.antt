pub mod Plain
pub mod Lab
pub mod Asking
pub mod Hearing
pub mod Steps
pub mod Lines
pub mod Law
