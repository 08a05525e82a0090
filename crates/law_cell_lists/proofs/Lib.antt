pub mod Lists
pub mod Frames
pub mod Streams
pub mod Takers
pub mod Taking
pub mod Net
pub mod Real
pub mod Law
