-- The laws of `intake`.
pub mod Along
pub mod Byte
pub mod Parts
pub mod Taken
pub mod State
pub mod Calls
pub mod Determined
pub mod Asks
pub mod Examples
