pub mod Backward
pub mod Answered
