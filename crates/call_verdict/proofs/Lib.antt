-- Laws of a verdict's effects.
mod Regions
mod Effects
