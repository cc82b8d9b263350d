-- What the contracts of `benchlines` cite.
pub mod Items
