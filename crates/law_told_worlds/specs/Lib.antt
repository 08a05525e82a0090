pub mod Before
pub mod Bound
pub mod Hops
pub mod Disowned
