pub mod Found
pub mod Plain
pub mod Leaves
pub mod Parting
pub mod Numbers
pub mod Asked
pub mod Simple
