-- Worked examples of the rules: a run, and what is shown of it; steps of a chain with SHA3.
pub mod SlowTag
pub mod Sha3Steps
