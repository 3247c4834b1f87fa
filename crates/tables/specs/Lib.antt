pub mod Buckets
pub mod Chains
pub mod Places
