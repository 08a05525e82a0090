pub use Rattle.law_rule_walks.proofs.aal5_frames as aal5_frames
pub use Rattle.law_rule_walks.proofs as law_rule_walks
pub mod Calm
pub mod Grants
pub mod Ages
pub mod Performing
pub mod Joining
pub mod Events
pub mod Ticking
pub mod Standing
pub mod Setting
pub mod Ending
pub mod Silence
pub mod Leads
pub mod Asked
pub mod Carrying
pub mod LedBack
pub mod Opened
pub mod Feeding
pub mod Runs
