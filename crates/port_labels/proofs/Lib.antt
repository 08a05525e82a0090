pub mod Numbers
pub mod Numbered
pub mod InPlace
pub mod Served
pub mod Entries
pub mod Steps
