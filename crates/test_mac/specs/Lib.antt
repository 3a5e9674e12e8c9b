-- What the contracts of `test_mac` cite.
pub mod Calls
