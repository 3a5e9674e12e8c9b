-- What the contracts of `test_leaves` cite.
pub mod Numbers
pub mod Walk
