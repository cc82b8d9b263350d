pub mod Table
pub mod Sizes
pub mod Taken
pub mod Written
pub mod Determined
