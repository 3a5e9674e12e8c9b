-- Laws of words and sets that other crates cite.
pub mod Sets
pub mod Status
