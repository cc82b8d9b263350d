-- What the inner function of the writer leaves.
pub mod Big
