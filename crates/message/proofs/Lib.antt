-- What the proofs of several functions need, and what is proved over the contracts.
pub mod Forms
pub mod Sizes
pub mod Joined
pub mod Passed
pub mod Building
pub mod Reading
pub mod Agree
pub mod Trips
pub mod Calls
pub mod Either
pub mod Ran
pub mod OneToOne
pub mod Determined
pub mod Asks
