pub mod Faults
pub mod Counted
pub mod Queues
pub mod Tally
pub mod Flows
pub mod Held
pub mod After
