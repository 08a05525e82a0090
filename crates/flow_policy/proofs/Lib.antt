pub mod Ends
pub mod Fields
pub mod Covering
pub mod Covered
pub mod Said
