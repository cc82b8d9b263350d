pub mod MinusOne
pub mod Shifts
pub mod Words
pub mod Determined
