pub mod Requests
pub mod Deleting
pub mod Law
pub mod Links
