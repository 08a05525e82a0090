pub mod Resting
pub mod Ticking
pub mod Hearing
pub mod Beats
