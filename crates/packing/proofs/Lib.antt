-- What the proofs of several functions need, and what is proved over the contracts.
pub mod Rows
pub mod Behind
pub mod Written
pub mod Determined
