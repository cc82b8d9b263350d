pub mod Outcomes
pub mod Covered
pub mod Inputs
pub mod Statements
