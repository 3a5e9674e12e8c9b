-- How the gate asks the core.
pub mod Asked
