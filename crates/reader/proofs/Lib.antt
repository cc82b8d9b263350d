-- The laws of `reader`.
pub mod Heard
pub mod Offered
pub mod Determined
