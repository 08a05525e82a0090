pub mod Message
pub mod Tests
pub mod Fields
