-- The laws of `adler`.
pub mod Sums
pub mod Determined
