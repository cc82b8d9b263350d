pub mod Numbers
pub mod Got
pub mod Exact
