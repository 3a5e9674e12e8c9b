-- Laws of SHA-3's definitions; those of `Short` are for callers.
mod UpTo
mod Linear
mod Inverted
mod Steps
mod Written
mod Rotated
mod Padding
mod Laid
mod Message
pub mod Short
