pub mod Fed
pub mod Determined
