pub mod Breaking
pub mod Coming
