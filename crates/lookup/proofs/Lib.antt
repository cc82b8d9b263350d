pub mod Search
pub mod Places
pub mod Steps
pub mod Candidate
pub mod Determined
