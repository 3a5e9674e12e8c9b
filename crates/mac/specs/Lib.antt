-- What the contracts of `mac` cite.
pub mod Kept
