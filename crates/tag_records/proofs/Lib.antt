-- Laws of tag records.
pub mod Told
