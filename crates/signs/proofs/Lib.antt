pub mod Integers
pub mod Determined
