-- Laws of sections, of block counts and marks, and of the store.
mod Sections
pub mod Counts
pub mod Stores
