pub mod Last
pub mod Cases
