pub mod Folds
pub mod Determined
