-- Laws of the definitions; those of `Kept`, `Padding` and `Truncation` are for callers.
mod Operations
mod Counts
mod Steps
pub mod Kept
pub mod Padding
pub mod Truncation
