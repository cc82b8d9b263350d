-- What the contracts of `adler` cite.
pub mod Adler
