-- The laws of `lines`.
pub mod OneToOne
pub mod Longest
pub mod Determined
