-- what the calls' contracts share
pub mod Told
pub mod Tesla
