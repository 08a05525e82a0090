pub mod Asked
pub mod Inputs
pub mod Ends
pub mod Failing
