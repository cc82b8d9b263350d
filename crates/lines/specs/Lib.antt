-- What the contracts of `lines` cite.
pub mod Kinds
pub mod Lines
