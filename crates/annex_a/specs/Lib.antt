-- Annex A of 000: its vectors.
pub mod Vectors
