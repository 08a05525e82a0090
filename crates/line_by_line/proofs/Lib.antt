pub mod InputLines
pub mod InputAccounts
pub mod Outcomes
pub mod Advancing
pub mod Finishing
pub mod Beginning
