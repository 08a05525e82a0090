pub mod Exchange
pub mod State
