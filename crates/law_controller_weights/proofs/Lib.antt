pub mod Answering
pub mod Packets
pub mod Cells
pub mod Paid
