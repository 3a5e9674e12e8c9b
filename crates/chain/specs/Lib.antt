-- What the contracts of `chain` and of its callers cite.
pub mod Sound
