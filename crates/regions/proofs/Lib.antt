-- Laws of the calls.
pub mod Faults
