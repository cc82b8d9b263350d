pub mod Part
pub mod Holder
