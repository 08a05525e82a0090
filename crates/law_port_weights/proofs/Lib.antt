pub mod Sums
pub mod Works
pub mod Below
pub mod Rules
pub mod Answered
pub mod Paid
