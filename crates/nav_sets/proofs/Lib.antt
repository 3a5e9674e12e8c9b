-- What is proved of a set's bits, and the laws that the functions' proofs cite.
pub mod Bytes
pub mod Eights
pub mod Shifts
pub mod Gathered
-- each bit of a set, for any five words
pub mod EachBit
