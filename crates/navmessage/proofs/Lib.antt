pub mod Replies
pub mod Tagging
pub mod Asks
