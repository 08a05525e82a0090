pub mod Mirrors
pub mod Fit
pub mod Law
pub mod Standing
pub mod Asking
pub mod Answers
pub mod Runs
