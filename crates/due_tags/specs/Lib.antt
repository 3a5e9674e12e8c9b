-- What the contracts of `due_tags` and of its callers cite.
pub mod Swept
