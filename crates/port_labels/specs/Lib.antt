pub mod Read
pub mod Book
pub mod Held
pub mod Index
