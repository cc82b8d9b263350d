pub mod Where
pub mod Determined
