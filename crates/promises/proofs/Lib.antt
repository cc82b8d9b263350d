pub mod Answers
pub mod OfTheStore
pub mod Tight
pub mod Joined
pub mod Exports
pub mod Whole
pub mod Ran
pub mod Asked
