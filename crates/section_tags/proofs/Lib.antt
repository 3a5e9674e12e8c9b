-- Laws of a section's own tags.
pub mod Fields
pub mod Joined
