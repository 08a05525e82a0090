pub mod Works
pub mod Counted
pub mod Asking
