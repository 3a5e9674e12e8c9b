-- Annex A of 000, computed.
pub mod Computed
