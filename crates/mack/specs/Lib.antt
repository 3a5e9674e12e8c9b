-- What the contracts of `mack` and of its callers cite.
pub mod Layout
pub mod Read
