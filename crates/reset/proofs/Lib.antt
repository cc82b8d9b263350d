pub mod Cleared
pub mod Determined
