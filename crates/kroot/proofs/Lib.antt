-- Laws of DSM-KROOT and the chain's parameters that other crates cite.
pub mod Parameters
pub mod Judged
