pub mod Shares
pub mod Changes
pub mod Word
pub mod More
pub mod Along
pub mod Brought
pub mod Asked
pub mod Computed
