pub use Rattle.script_model.proofs as script_model
pub use Rattle.law_true_runs.proofs as law_true_runs
pub mod Lines
pub mod Ends
pub mod Knows
pub mod Puts
pub mod Binds
pub mod Placed
pub mod Links
pub mod Switched
pub mod Crossing
pub mod Taking
pub mod Fitting
pub mod Event
pub mod Hop
pub mod Sending
pub mod Grown
pub mod Placing
pub mod Firsts
pub mod Run
