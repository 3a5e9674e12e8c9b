-- Laws of row 11, and of the chain in force.
pub mod Forced
mod Sections
