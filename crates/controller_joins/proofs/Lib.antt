pub mod Found
pub mod Ends
pub mod Standing
pub mod OnPort
