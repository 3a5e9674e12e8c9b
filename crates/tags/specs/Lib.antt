-- What the contracts of `tags` and of its callers cite.
pub mod Layout
