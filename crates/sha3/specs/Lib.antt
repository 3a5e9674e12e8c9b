-- What the contracts of `sha3` cite.
pub mod Sha3
pub mod Mask
