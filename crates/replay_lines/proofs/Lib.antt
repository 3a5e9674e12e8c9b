-- what the functions' proofs share
pub mod Joined
mod Decimal
pub mod Hexadecimal
