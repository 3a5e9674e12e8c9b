-- Laws of a section's layout that other crates cite.
pub mod Places
