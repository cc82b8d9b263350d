pub mod Handed
pub mod Offset
