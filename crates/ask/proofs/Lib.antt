pub mod Heads
pub mod Back
pub mod Steps
pub mod Enough
pub mod OneToOne
pub mod Tells
pub mod Determined
