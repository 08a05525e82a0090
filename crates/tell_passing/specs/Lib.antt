pub mod Lengths
pub mod Look
