-- What the contracts of `section_tags` and of its callers cite.
pub mod Own
