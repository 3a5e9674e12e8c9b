-- Laws of the region of waiting tags that other crates cite.
pub mod Entries
