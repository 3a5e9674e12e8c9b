-- Laws of authentic sets and candidates.
pub mod Agreed
