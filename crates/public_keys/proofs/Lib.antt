-- Laws of the public keys that other crates cite.
pub mod Keys
