pub mod Unlabelled
pub mod Calm
pub mod Agreeing
pub mod Ways
pub mod Served
pub mod CutThrough
pub mod Run
