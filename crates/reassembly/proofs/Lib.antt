pub mod Chains
pub mod Receipts
