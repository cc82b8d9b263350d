pub mod OneValue
pub mod Values
pub mod Pattern
pub mod Product
pub mod Exact
pub mod Determined
