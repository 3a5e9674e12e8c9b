-- Laws of the sub-frame call.
pub mod Subframes
