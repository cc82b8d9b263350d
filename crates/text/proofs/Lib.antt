-- The laws that callers of `text` cite.
pub mod Puts
pub mod Decimal
pub mod Hex
pub mod Determined
