pub mod Polynomial
pub mod Cell
