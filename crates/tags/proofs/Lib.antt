pub mod Order
pub mod Accepts
pub mod Determined
pub mod Shown
