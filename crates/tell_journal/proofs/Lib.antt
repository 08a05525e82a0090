pub mod Lists
pub mod Deeds
