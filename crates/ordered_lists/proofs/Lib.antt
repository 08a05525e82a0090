pub mod Every
pub mod InOrder
pub mod Exchange
pub mod Copies
pub mod Parts
pub mod Found
