pub mod Parts
pub mod Determined
pub mod Asks
