-- Laws of the way down the chain.
pub mod Falling
