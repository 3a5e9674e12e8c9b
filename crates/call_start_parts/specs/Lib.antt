-- what an accepted start writes
pub mod Blank
