-- The laws that the proofs of `gst` and its callers cite.
pub mod Sums
pub mod OneToOne
pub mod Told
pub mod Determined
pub mod Asks
