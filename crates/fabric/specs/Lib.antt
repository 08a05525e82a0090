pub mod Table
pub mod Following
pub mod Fabric
