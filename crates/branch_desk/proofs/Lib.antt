pub mod Ordered
pub mod Ends
pub mod Numbers
pub mod Apart
pub mod Keys
pub mod Gone
pub mod Answering
pub mod Done
