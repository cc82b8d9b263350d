-- What the contracts of `intake` cite.
pub mod Input
pub mod Reader
