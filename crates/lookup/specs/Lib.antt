pub mod Found
pub mod Candidate
