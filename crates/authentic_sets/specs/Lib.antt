-- What the contracts of `authentic_sets` cite.
pub mod Regions
pub mod Places
pub mod Agreements
