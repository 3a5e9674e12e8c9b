-- Laws of a key's block, and of a kept key; those of `Kept` are for callers.
mod Pads
pub mod Kept
