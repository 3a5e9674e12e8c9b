-- What the contracts of `mack_keys` cite.
pub mod Keys
