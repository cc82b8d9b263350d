-- What a proof needs, and what is proved over the contracts.
pub mod Four
pub mod Determined
