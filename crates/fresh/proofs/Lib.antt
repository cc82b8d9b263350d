pub mod Blank
pub mod Determined
