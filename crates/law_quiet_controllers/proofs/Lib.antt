pub mod Sending
pub mod Asking
pub mod Joining
pub mod Answers
pub mod Events
pub mod Beginning
pub mod Laws
