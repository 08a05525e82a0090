pub mod Rules
pub mod Unnumbered
