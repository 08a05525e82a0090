pub mod Stepped
pub mod Joined
pub mod Opening
pub mod Premises
pub mod Answered
pub mod Free
pub mod Freed
pub mod Settled
