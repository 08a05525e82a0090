pub mod Halted
pub mod Keys
pub mod Rounds
pub mod Sequels
pub mod Sessions
