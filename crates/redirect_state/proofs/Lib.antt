pub use Rattle.port_saying.proofs as port_saying
pub use Rattle.port_session.proofs as port_session
pub mod Ages
pub mod Backs
pub mod Grown
pub mod Lefts
pub mod Older
pub mod Places
pub mod Served
pub mod Spends
pub mod Stops
