-- The laws of `benchlines`.
pub mod Parts
pub mod Determined
