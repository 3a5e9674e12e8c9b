-- Laws of AES's definitions. For callers: `Table` (the S-box and the inverse), `Lengths` and `Keys` (lengths, numbers of words and rounds).
pub mod Table
pub mod Lengths
mod States
pub mod Keys
