pub mod Line
pub mod Demand
