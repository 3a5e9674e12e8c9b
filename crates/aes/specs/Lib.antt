-- What the contracts of `aes` cite.
pub mod Aes
pub mod Steps
