-- What the contracts of `test_hash` cite.
pub mod Calls
