-- What the contracts of `due_tag_keys` and of its callers cite.
pub mod Outcomes
