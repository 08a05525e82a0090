pub mod Side
pub mod Table
pub mod Instances
pub mod Greeting
pub mod Hello
pub mod Ends
