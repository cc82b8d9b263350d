pub mod Passes
pub mod Turn
pub mod Determined
