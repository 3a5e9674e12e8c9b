-- What the contracts of `received` and of its callers cite.
pub mod Items
