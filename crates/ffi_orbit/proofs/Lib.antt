pub mod Determined
pub mod Asks
pub mod Exact
