pub use Rattle.port_session.proofs as port_session
pub mod Labelled
pub mod Sides
