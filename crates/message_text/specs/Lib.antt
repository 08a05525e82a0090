pub mod Fields
pub mod Ifmp
pub mod Gsmp
pub mod Listing
