pub mod Ports
pub mod Others
pub mod Counted
pub mod Failing
pub mod Lines
pub mod Linked
pub mod Cells
