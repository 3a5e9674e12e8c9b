-- A start by its number.
pub mod Started
