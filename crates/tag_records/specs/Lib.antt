-- What the contracts of tag records speak of.
pub mod Told
