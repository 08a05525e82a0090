pub mod Views
pub mod Nodes
pub mod Parts
pub mod Queues
