pub mod Claim
pub mod Cap
