pub mod Exchange
pub mod Law
