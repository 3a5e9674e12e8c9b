-- A worked run, and steps of a chain with SHA3, computed.
pub mod Opened
pub mod Macs
pub mod SlowTagRun
pub mod SlowTagFour
pub mod Sha3Steps
