pub mod Words
pub mod Numeral
pub mod Forms
pub mod Lines
pub mod Line
pub mod Text
pub mod Names
pub mod Kept
