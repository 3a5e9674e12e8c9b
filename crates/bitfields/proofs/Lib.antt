-- Laws of bit fields that other crates cite.
pub mod Fields
pub mod Packing
