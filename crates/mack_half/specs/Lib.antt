-- What the contracts of the MACK half speak of.
pub mod Half
