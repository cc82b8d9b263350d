pub mod Brought
pub mod Examples
