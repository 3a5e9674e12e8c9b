-- What is claimed of the exported calls.
pub mod Run
