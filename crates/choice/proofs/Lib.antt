pub mod Search
pub mod Oldest
pub mod Keys
pub mod Cases
pub mod Steps
pub mod Examples
pub mod Determined
