-- Laws of the MACK half.
pub mod Sections
mod Taken
