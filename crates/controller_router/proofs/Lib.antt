pub use Rattle.controller_link.proofs as controller_link
pub mod Keyed
pub mod Linked
pub mod AtWork
pub mod Placing
pub mod Turns
pub mod Asked
pub mod Permits
pub mod Forwards
pub mod Joined
pub mod Receipts
pub mod Totals
pub mod Takers
pub mod Placed
