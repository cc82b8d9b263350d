-- The head of a message as one number, and the answers of the calls.
pub mod Heads
pub mod Outcome
