pub mod Division
pub mod Fields
pub mod Front
pub mod Numbers
pub mod Octets
pub mod Quotient
