-- What the proofs of several functions need, and what is proved over the contracts.
pub mod Shifts
pub mod OneByte
pub mod InTurn
pub mod Determined
